-- `enter` meets its contract: a split of a sound list has a small property, and a right child that is a place.
use lib.IntN.{ℤ}
use mathlib.Core.List.{List}
use mathlib.Core.Path.{◌≡◌, sym, ◌∙◌, ap}
use native.Mathlib.Omega.{arith}
use Prim.Native.Nat.{◌*◌}
use Rattle.std.proofs.Common.{Ok}
use Rattle.nodes.proofs.Lists.{rest}
use Rattle.nodes.proofs.Read.{property_small}
use Rattle.nodes.specs.Nodes.{node_at}
use Rattle.nodes.specs.declared.Node.TheVariants as node
use Rattle.refusal.specs.Paper.{gives, said}
use Rattle.validation.proofs.visit.enter.Goals as goal

pub enter_split-requires : goal.enter_split-requires
enter_split-requires c =
    let list : List ℤ = c.args.words.now in
    let is_node : said c.read_node.result ≡ node_at list c.args.place = simp (rest list (5 * c.args.place)) at c.read_node.ensures in
    let was_split : c.read_node.result ≡ Ok (node.Split c.in-Split.split) = grind arith in
    let is_split : node_at list c.args.place ≡ gives (node.Split c.in-Split.split) = sym is_node ∙ ap said was_split in
    (c.requires.2, c.requires.3, property_small _ _ is_split, c.requires.4 _ is_split)
