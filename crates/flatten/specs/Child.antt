-- A split's child, by what its parent's record says of it and by what is queued for it.
use Rattle.std.specs.Prelude.{List, [], ◌∷◌, ◌≡◌, ℕ, ◌+◌, ◌*◌, ◌≤◌, ◌<◌, ℤ, pos, length}
use Rattle.nodes.specs.Nodes.{node_at}
use Rattle.nodes.specs.declared.Node.{Node}
use Rattle.nodes.specs.declared.Split.{Split}
use Rattle.nodes.specs.declared.Node.TheVariants as node
use Rattle.refusal.specs.Paper.{Outcome, gives, refuses}
use Rattle.flatten.specs.Queue.{queued_for}
use Rattle.flatten.specs.declared.records.Child.{Child}

abbrev pub child_of : Outcome Node → ℕ → Child
child_of (gives (node.Split s)) place = record { property = s.property; value = s.value; one = s.left; two = s.right }
child_of (gives (node.Leaf l)) place = record { property = 0; value = pos 0; one = place; two = place }
child_of (refuses number details) place = record { property = 0; value = pos 0; one = place; two = place }

-- the words of a split's record, by its children
abbrev pub split_words : Split → Child → Child → ℕ → List ℤ
split_words s left right first =
    pos s.property ∷ s.value ∷ left.value ∷ right.value ∷ pos first ∷ pos (left.property + 65536 * right.property) ∷ []

-- places that a ring's word holds
pub record Narrow (child : Child) : Type 0 where
  pub first : child.one < 2147483648
  pub second : child.two < 2147483648

-- a child that is there: in form, with places that a ring's word holds
pub record There (words : List ℤ) (place : ℕ) : Type 0 where
  pub inside : 5 * place ≤ length words
  pub small : (child_of (node_at words place) place).property < 256
  pub narrow : Narrow (child_of (node_at words place) place)
  pub queues : queued_for (node_at words place) place ≡ (child_of (node_at words place) place).one ∷ (child_of (node_at words place) place).two ∷ []
