-- The children of a split of a sound list are there, and its record says of them what reading them says.
use lib.IntN.{ℤ}
use lib.ListN.{length}
use lib.Seq.{sets}
use mathlib.Core.List.{List}
use mathlib.Core.Path.{◌≡◌, refl, ap, ◌∙◌}
use native.Mathlib.Omega.{arith}
use Prim.Native.Nat.{ℕ, ◌<◌}
use Rattle.nodes.proofs.Read.{property_small}
use Rattle.nodes.specs.Nodes.{node_at}
use Rattle.nodes.specs.declared.Node.{Node}
use Rattle.nodes.specs.declared.Node.TheVariants as node
use Rattle.nodes.specs.declared.Split.{Split}
use Rattle.refusal.specs.Paper.{Outcome, gives, refuses}
use Rattle.validation.proofs.Sound.{node_there, inside}
use Rattle.validation.proofs.ToDo.{nodes, Sound}
use Rattle.flatten.specs.Child.{child_of, split_words, There}
use Rattle.flatten.specs.Queue.{grandchildren}
use Rattle.flatten.specs.declared.records.Child.{Child}
use Rattle.flatten.specs.Records.{property_of, value_of, record_for}

as_property : (o : Outcome Node) (place : ℕ) → (child_of o place).property ≡ property_of o
as_property (gives (node.Split s)) place = refl
as_property (gives (node.Leaf l)) place = refl
as_property (refuses number details) place = refl

as_value : (o : Outcome Node) (place : ℕ) → (child_of o place).value ≡ value_of o
as_value (gives (node.Split s)) place = refl
as_value (gives (node.Leaf l)) place = refl
as_value (refuses number details) place = refl

module _ (words : List ℤ) where
  as_record : (s : Split) (first : ℕ) {l r : Child} → l ≡ child_of (node_at words s.left) s.left → r ≡ child_of (node_at words s.right) s.right
      → split_words s l r first ≡ record_for words (gives (node.Split s)) first
  as_record s first is_left is_right =
      let l = node_at words s.left in
      let r = node_at words s.right in
      rw (is_left, is_right, as_property l s.left, as_property r s.right, as_value l s.left, as_value r s.right)

  pub as_stored : (s : Split) (first : ℕ) {l r : Child} → l ≡ child_of (node_at words s.left) s.left → r ≡ child_of (node_at words s.right) s.right
      → (output : List ℤ) (at : ℕ) {output' : List ℤ} → output' ≡ sets output at (split_words s l r first) → output' ≡ sets output at (record_for words (gives (node.Split s)) first)
  as_stored s first is_left is_right output at stored = stored ∙ ap (sets output at) (as_record s first is_left is_right)

  pub four_queued : (s : Split) → There words s.left → There words s.right → length (grandchildren words (gives (node.Split s))) ≡ 4
  four_queued s left right = rw (left.queues, right.queues)

  module _ (sound : Sound words) where
    there_by : (place : ℕ) → place < nodes words → (node : Node) → node_at words place ≡ gives node → There words place
    there_by place h (node.Leaf l) is =
        record { inside = omega (arith, sound.whole); small = rw is (omega arith); narrow = rw is (record { first = omega (arith, sound.few); second = omega (arith, sound.few) }); queues = rw is }
    there_by place h (node.Split s) is =
        let at = inside words (nodes words) sound.shaped sound.some place h is in
        record {
          inside = omega (arith, sound.whole);
          small = rw is (property_small _ _ is);
          narrow = rw is (record { first = omega (arith, sound.few, at); second = omega (arith, sound.few, at) });
          queues = rw is;
        }

    child_there : (place : ℕ) → place < nodes words → There words place
    child_there place h =
        let it = node_there words (nodes words) sound.shaped sound.some place h in
        there_by place h it.0 it.1

    pub children_there : (place : ℕ) {s : Split} → place < nodes words → node_at words place ≡ gives (node.Split s)
        → There words s.left × There words s.right × (s.property < 256)
    children_there place {s} h is =
        let at = inside words (nodes words) sound.shaped sound.some place h is in
        (child_there s.left at.1, child_there s.right at.2, property_small _ _ is)
