-- The mask of the properties that a list's splits test: document 01, module 5. Tests 1, 2 and 3 only, so children may lie anywhere.
use Rattle.std.specs.Prelude.{Bool, true, ◌&&◌, ◌||◌, List, ◌≡◌, ℕ, zero, suc, ◌/◌, ◌%◌, ◌^◌, ◌<◌, leb, eqb, ℤ, Result}
use Rattle.std.specs.Int.Bits.{bit_or}
use Rattle.integer.specs.Order.{if}
use Rattle.refusal.specs.Paper.{Outcome, gives, refuses, said, one_result}
use Rattle.refusal.specs.declared.Refusal.{Refusal}
use Rattle.nodes.specs.Nodes.{counted, node_at}
use Rattle.nodes.specs.declared.Split.{Split}
use Rattle.nodes.specs.declared.Node.{Node}
use Rattle.nodes.specs.declared.Node.TheVariants as node

abbrev pub eight_or_nine : ℕ → Bool
eight_or_nine n = eqb n 8 || eqb n 9

-- bit p for property p: 8 and 9 go together, and a property from 32 on sets every bit
abbrev pub bits_for : ℕ → ℕ
bits_for property = if (leb 32 property) 4294967295 (if (eight_or_nine property) 768 (2 ^ property))

-- a leaf tests none
abbrev pub bits_of_node : Node → ℕ
bits_of_node (node.Split split) = bits_for split.property
bits_of_node (node.Leaf leaf) = 0

-- one node more: the first refusal counts
abbrev pub with_node : Outcome ℕ → Outcome Node → Outcome ℕ
with_node (gives bits) (gives n) = gives (bit_or bits (bits_of_node n))
with_node (gives bits) (refuses number details) = refuses number details
with_node (refuses number details) next = refuses number details

-- the first k nodes
abbrev pub mask_up_to : List ℤ → ℕ → Outcome ℕ
mask_up_to words zero = gives 0
mask_up_to words (suc k) = with_node (mask_up_to words k) (node_at words k)

abbrev pub mask_by : List ℤ → Outcome ℕ → Outcome ℕ
mask_by words (gives nodes) = mask_up_to words nodes
mask_by words (refuses number details) = refuses number details

abbrev pub mask_of : List ℤ → Outcome ℕ
mask_of words = mask_by words (counted words)

-- ---- what the mask means: bit b of the 32 is set exactly when some split's property includes it (proofs/MaskBits.antt)

abbrev pub bit : ℕ → ℕ → ℕ
bit bits b = bits / 2 ^ b % 2

-- the bits that a property sets: its own, the other of 8 and 9, or all
abbrev pub includes : ℕ → ℕ → Bool
includes property b = leb 32 property || (eqb property b || (eight_or_nine property && eight_or_nine b))

-- one of the first n nodes is a split whose property sets bit b
pub record Tested (words : List ℤ) (n b : ℕ) : Type 0 where
  pub place : ℕ
  pub early : place < n
  pub split : Split
  pub is : node_at words place ≡ gives (node.Split split)
  pub sets : includes split.property b ≡ true

-- ---- determinacy

pub mask_determined : {v : Outcome ℕ} (r s : Result ℕ Refusal) → said r ≡ v → said s ≡ v → r ≡ s
mask_determined r s p q = one_result r s p q
