-- Module 6 of document 01, validation: a visit of the tree, depth first, left first; at each node depth is tested before range.
use Rattle.std.specs.Prelude.{Bool, ◌||◌, not, List, [], ◌∷◌, ℕ, zero, suc, ◌+◌, ◌*◌, ◌%◌, eqb, ℤ, pos, negsuc, ◌+ℤ◌, get_or, set}
use Rattle.std.specs.Int.Signed.{lt_z}
use Rattle.integer.specs.Order.{if}
use Rattle.integer.specs.Fill.{tabulate}
use Rattle.nodes.specs.Nodes.{node_at, then}
use Rattle.nodes.specs.declared.Node.{Node}
use Rattle.nodes.specs.declared.Node.TheVariants as node
use Rattle.nodes.specs.declared.Split.{Split}
use Rattle.refusal.specs.Paper.{Outcome, gives, refuses}

-- ---- the range of each of the 256 properties, its lowest and its highest value: words 2p and 2p+1 of 512

abbrev pub low : List ℤ → ℕ → ℤ
low ranges property = get_or ranges (2 * property) (pos 0)

abbrev pub high : List ℤ → ℕ → ℤ
high ranges property = get_or ranges (2 * property + 1) (pos 0)

-- every signed 32-bit value
abbrev pub widest : ℕ → ℤ
widest i = if (eqb (i % 2) 0) (negsuc 2147483647) (pos 2147483647)

unfoldable pub all_ranges : List ℤ
all_ranges = tabulate widest 512

-- left holds cell > value
abbrev pub left_of : Split → List ℤ → List ℤ
left_of s ranges = set ranges (2 * s.property) (s.value +ℤ pos 1)

abbrev pub right_of : Split → List ℤ → List ℤ
right_of s ranges = set ranges (2 * s.property + 1) s.value

-- no value of the range goes left, or none goes right
abbrev pub empty_side : Split → List ℤ → Bool
empty_side s ranges = not (lt_z s.value (high ranges s.property)) || lt_z s.value (low ranges s.property)

-- ---- the visit of the node at `place`; `levels` more may be entered from here down

abbrev pub enter : Outcome Node → ℕ → List ℤ → (ℕ → List ℤ → Outcome Unit) → Outcome Unit
enter (refuses number details) place ranges visit_child = refuses number details
enter (gives (node.Leaf l)) place ranges visit_child = gives tt
enter (gives (node.Split s)) place ranges visit_child =
    if (empty_side s ranges)
    (refuses 7 (pos place ∷ pos s.property ∷ s.value ∷ low ranges s.property ∷ high ranges s.property ∷ []))
    (then (visit_child s.left (left_of s ranges)) (visit_child s.right (right_of s ranges)))

unfoldable pub visit : List ℤ → ℕ → ℕ → List ℤ → Outcome Unit
visit words zero place ranges = refuses 6 (pos place ∷ [])
visit words (suc levels) place ranges = enter (node_at words place) place ranges (visit words levels)

-- depths 0 to 2,048
abbrev pub levels : ℕ
levels = 2049

-- how many nodes such a visit enters at most
abbrev pub entered_by : Outcome Node → (ℕ → ℕ) → ℕ
entered_by (refuses number details) below = 1
entered_by (gives (node.Leaf l)) below = 1
entered_by (gives (node.Split s)) below = 1 + (below s.left + below s.right)

unfoldable pub entered : List ℤ → ℕ → ℕ → ℕ
entered words zero place = 1
entered words (suc levels) place = entered_by (node_at words place) (entered words levels)
