-- `write_record` meets its contract: of the node that is read.
use lib.IntN.{ℤ}
use lib.ListN.{length}
use mathlib.Core.List.{List}
use mathlib.Core.Path.{◌≡◌, sym, ap, ◌∙◌}
use native.Mathlib.Omega.{arith}
use Prim.Native.Nat.{◌+◌, ◌*◌, ◌≤◌, ◌<◌}
use Rattle.nodes.proofs.Lists.{rest}
use Rattle.nodes.specs.Nodes.{node_at}
use Rattle.nodes.specs.declared.Node.{Node}
use Rattle.nodes.specs.declared.Node.TheVariants as node
use Rattle.refusal.specs.Paper.{gives, said}
use Rattle.validation.proofs.ToDo.{sound_list}
use Rattle.flatten.specs.Queue.{grandchildren}
use Rattle.flatten.proofs.Children.{children_there, four_queued}
use Rattle.flatten.proofs.records.write_record.Goals as goal

pub write_three-requires : goal.write_three-requires
write_three-requires c =
    let list : List ℤ = c.args.words.now in
    let split = c.in-Ok-Split.split in
    let is_node : said c.read_node.result ≡ node_at list c.args.place = simp (rest list (5 * c.args.place)) at c.read_node.ensures in
    let is : node_at list c.args.place ≡ gives (node.Split split) = sym is_node ∙ ap said c.in-Ok-Split.is ∙ ap (λ (n : Node). gives n) c.in-Ok-Split.field-0-is in
    let there = children_there list (sound_list list c.requires.sound_list.0) c.args.place c.requires.sound_list.1 is in
    let first_small : c.args.k + c.args.ring.now.queued + 1 < 2147483648 = omega (arith, c.requires.sound_list.3) in
    let room : c.args.ring.now.queued + length (grandchildren list (gives (node.Split split))) ≤ length c.args.ring.now.words.now = rw is at c.requires.ready.1 in
    let enough : c.args.ring.now.queued + 4 ≤ length c.args.ring.now.words.now = omega (arith, room, four_queued list split there.0 there.1) in
    record { there = (there.0, there.1, there.2, first_small); ready = (c.requires.ready.0, enough, c.requires.sound_list.2) }
