-- `step` meets its contract: each test decides one refusal, and the last one the child.
use borrow.Author.Tests.{lt-ltb, le-ltb}
use mathlib.Core.Bool.{true, false}
use mathlib.Core.Path.{◌≡◌, sym, ◌∙◌}
use mathlib.Core.List.{List}
use lib.Dec.{ltb}
use lib.IntN.{ℤ}
use lib.ListN.{length}
use lib.Signed.{lt_z}
use mir.Syntax.{w32}
use mir.Val.{to_z, of_z}
use Rattle.integer.proofs.Bounded.{held}
use Rattle.nodes.specs.Nodes.{word}
use Rattle.nodes.specs.declared.Split.{Split}
use Rattle.walk.specs.Walk.{step_of, in_order}
use Rattle.walk.proofs.step.Goals as goal

pub returns-then-not-in_order : goal.returns-then-not-in_order
unfolding step_of
returns-then-not-in_order c =
    -- what each test says of the split
    let in_order_not : in_order c.args.split c.args.place c.args.n ≡ false = sym c.in_order.ensures ∙ c.if-not-in_order.true in
    simp in_order_not

pub returns-then-cells-property : goal.returns-then-cells-property
unfolding step_of
returns-then-cells-property c =
    let split : Split = c.args.split in
    let in_order_so : in_order split c.args.place c.args.n ≡ true = sym c.in_order.ensures ∙ c.if-not-in_order.false in
    simp (in_order_so, le-ltb _ _ c.if-cells-property.true)

pub returns-then-cells-property-2 : goal.returns-then-cells-property-2
unfolding step_of
returns-then-cells-property-2 c =
    let split : Split = c.args.split in
    let in_order_so : in_order split c.args.place c.args.n ≡ true = sym c.in_order.ensures ∙ c.if-not-in_order.false in
    let given : List ℤ = c.args.cells.now in
    let has_cell : ltb split.property (length given) ≡ true = lt-ltb _ _ c.if-cells-property.false in
    let cell : ℤ = word given split.property in
    let cell_back : to_z w32 (of_z w32 cell) ≡ cell = held w32 cell c.t14-1.given in
    let value_back : to_z w32 (of_z w32 split.value) ≡ split.value = held w32 split.value c.struct_told-1.given.1.0.1 in
    let goes_left : lt_z split.value cell ≡ true = simp (cell_back, value_back) at c.if-cells-property-2.true in
    simp (in_order_so, has_cell, goes_left)

pub returns-else-cells-property-2 : goal.returns-else-cells-property-2
unfolding step_of
returns-else-cells-property-2 c =
    let split : Split = c.args.split in
    let in_order_so : in_order split c.args.place c.args.n ≡ true = sym c.in_order.ensures ∙ c.if-not-in_order.false in
    let given : List ℤ = c.args.cells.now in
    let has_cell : ltb split.property (length given) ≡ true = lt-ltb _ _ c.if-cells-property.false in
    let cell : ℤ = word given split.property in
    let cell_back : to_z w32 (of_z w32 cell) ≡ cell = held w32 cell c.t14-1.given in
    let value_back : to_z w32 (of_z w32 split.value) ≡ split.value = held w32 split.value c.struct_told-1.given.1.0.1 in
    let goes_right : lt_z split.value cell ≡ false = simp (cell_back, value_back) at c.if-cells-property-2.false in
    simp (in_order_so, has_cell, goes_right)
