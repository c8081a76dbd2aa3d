-- Module 6 of document 01, shape: the order that `Tree::read` writes. The k-th split from 0 has children 2k+1 and 2k+2, lying after it;
-- the count is 2·splits+1. Too short: 4 at the length; too long: 4 at the first place above twice the splits before it. The lowest place
-- counts, 3 before 4 at one place.
use Rattle.std.specs.Prelude.{Bool, ◌&&◌, List, [], ◌∷◌, ℕ, zero, suc, ◌+◌, ◌*◌, leb, eqb, ℤ, pos}
use Rattle.integer.specs.Order.{if}
use Rattle.nodes.specs.Nodes.{counted, node_at, then}
use Rattle.nodes.specs.declared.Node.{Node}
use Rattle.nodes.specs.declared.Node.TheVariants as node
use Rattle.nodes.specs.declared.Split.{Split}
use Rattle.refusal.specs.Paper.{Outcome, gives, refuses}

-- 1 for a split
abbrev pub splits_in : Outcome Node → ℕ
splits_in (gives (node.Split s)) = 1
splits_in (gives (node.Leaf l)) = 0
splits_in (refuses number details) = 0

-- the splits among the first k nodes
unfoldable pub splits_before : List ℤ → ℕ → ℕ
splits_before words zero = 0
splits_before words (suc k) = splits_before words k + splits_in (node_at words k)

-- whether a node at this place, after so many splits, has its children where they belong
abbrev pub in_place : Node → ℕ → ℕ → Bool
in_place (node.Leaf l) place splits = leb place (2 * splits)
in_place (node.Split s) place splits = leb place (2 * splits) && (eqb s.left (2 * splits + 1) && eqb s.right (2 * splits + 2))

abbrev pub placed : Outcome Node → ℕ → ℕ → Outcome Unit
placed (refuses number details) place splits = refuses number details
placed (gives node) place splits = if (in_place node place splits) (gives tt) (refuses 4 (pos place ∷ []))

-- the same, with the splits up to the node, it included
abbrev pub placed_leaf : ℕ → ℕ → Outcome ℕ
placed_leaf place splits = if (leb place (2 * splits)) (gives splits) (refuses 4 (pos place ∷ []))

abbrev pub placed_split : Split → ℕ → ℕ → Outcome ℕ
placed_split s place splits = if (in_place (node.Split s) place splits) (gives (splits + 1)) (refuses 4 (pos place ∷ []))

abbrev pub splits_with : Outcome Node → ℕ → ℕ → Outcome ℕ
splits_with (refuses number details) place splits = refuses number details
splits_with (gives (node.Leaf l)) place splits = placed_leaf place splits
splits_with (gives (node.Split s)) place splits = placed_split s place splits

-- the first fault among the first k nodes
unfoldable pub first_fault : List ℤ → ℕ → Outcome Unit
first_fault words zero = gives tt
first_fault words (suc k) = then (first_fault words k) (placed (node_at words k) k (splits_before words k))

-- a list that ends before the children of its splits
abbrev pub complete : List ℤ → ℕ → Outcome Unit
complete words n = if (leb (2 * splits_before words n + 1) n) (gives tt) (refuses 4 (pos n ∷ []))

-- of n nodes; the empty list passes
abbrev pub shape_of : List ℤ → ℕ → Outcome Unit
shape_of words n = if (eqb n 0) (gives tt) (then (first_fault words n) (complete words n))

abbrev pub shape_by : List ℤ → Outcome ℕ → Outcome Unit
shape_by words (gives n) = shape_of words n
shape_by words (refuses number details) = refuses number details

-- 1, 2, then 3 and 4 by place
abbrev pub shape : List ℤ → Outcome Unit
shape words = shape_by words (counted words)
