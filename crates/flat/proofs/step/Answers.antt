-- `step` meets its contract: 4, then 10, then the grandchild's place, which lies inside the list.
use borrow.Author.Tests.{le-leb, lt-leb}
use lib.ListN.{length}
use mathlib.Core.Bool.{true, false}
use mathlib.Core.Path.{◌≡◌, sym, ◌∙◌}
use native.Mathlib.Omega.{arith}
use Prim.Native.Nat.{◌≤◌, ◌<◌}
use Rattle.flat.specs.FlatWalk.{step_of, in_order, cells_needed}
use Rattle.flat.proofs.step.Goals as goal

pub returns-then-not-sound : goal.returns-then-not-sound
unfolding step_of
returns-then-not-sound c =
    let in_order_not : in_order c.args.split c.args.place c.args.count ≡ false = sym c.in_order-sound.ensures ∙ c.if-not-sound.true in
    simp in_order_not

pub returns-then-cells-needed : goal.returns-then-cells-needed
unfolding step_of
returns-then-cells-needed c =
    let in_order_so : in_order c.args.split c.args.place c.args.count ≡ true = sym c.in_order-sound.ensures ∙ c.if-not-sound.false in
    let is_needed : c.cells_needed-needed.result ≡ cells_needed c.args.split = c.cells_needed-needed.ensures in
    let too_few : let s = c.args in length s.cells.now < cells_needed s.split = omega (arith, c.if-cells-needed.true, is_needed) in
    simp (in_order_so, lt-leb _ _ too_few, is_needed)

pub returns : goal.returns
unfolding step_of
returns c =
    let in_order_so : in_order c.args.split c.args.place c.args.count ≡ true = sym c.in_order-sound.ensures ∙ c.if-not-sound.false in
    let is_needed : c.cells_needed-needed.result ≡ cells_needed c.args.split = c.cells_needed-needed.ensures in
    let enough : let s = c.args in cells_needed s.split ≤ length s.cells.now = omega (arith, c.if-cells-needed.false, is_needed) in
    simp (in_order_so, le-leb _ _ enough, c.grandchild_of-grandchild.ensures)
