-- 9: a leaf's offset outside -32,768..32,767, at the lowest place of one.
use Rattle.std.specs.Prelude.{Bool, ◌||◌, List, [], ◌∷◌, ℕ, zero, suc, ℤ, pos, negsuc}
use Rattle.std.specs.Int.Signed.{lt_z}
use Rattle.integer.specs.Order.{if}
use Rattle.nodes.specs.Nodes.{node_at, then}
use Rattle.nodes.specs.declared.Node.{Node}
use Rattle.nodes.specs.declared.Node.TheVariants as node
use Rattle.refusal.specs.Paper.{Outcome, gives, refuses}

abbrev pub is_wide : ℤ → Bool
is_wide offset = lt_z offset (negsuc 32767) || lt_z (pos 32767) offset

abbrev pub judged : ℤ → ℕ → Outcome Unit
judged offset place = if (is_wide offset) (refuses 9 (pos place ∷ [])) (gives tt)

abbrev pub offset_of : Outcome Node → ℕ → Outcome Unit
offset_of (gives (node.Split s)) place = gives tt
offset_of (gives (node.Leaf l)) place = judged l.offset place
offset_of (refuses number details) place = refuses number details

-- among the first k nodes
unfoldable pub first_wide : List ℤ → ℕ → Outcome Unit
first_wide words zero = gives tt
first_wide words (suc k) = then (first_wide words k) (offset_of (node_at words k) k)
