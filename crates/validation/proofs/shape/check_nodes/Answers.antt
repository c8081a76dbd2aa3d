-- `check_nodes` meets its contract. The loop's invariant: no fault so far, and the splits so far are counted.
use borrow.Author.Rules.{rules}
use borrow.Author.Tests.{ne_eqb}
use lib.IntN.{ℤ}
use mathlib.Core.List.{List}
use mathlib.Core.Path.{◌≡◌, sym, ap, ◌∙◌}
use native.Mathlib.Numerals.{add-one}
use native.Mathlib.Omega.{arith}
use Prim.Native.Nat.{ℕ, suc, ◌+◌, ◌<◌}
use Rattle.std.proofs.Common.{Ok, Err}
use Rattle.refusal.proofs.Outcomes.{passed_on}
use Rattle.refusal.specs.Paper.{said}
use Rattle.nodes.specs.Nodes.{node_at}
use Rattle.validation.specs.Shape.{placed, splits_in, splits_before, first_fault}
use Rattle.validation.proofs.Faults.{placed_well, placed_ill, next_splits, next_fault, fault_stays}
use Rattle.validation.proofs.Sound.{at_most_one}
use Rattle.validation.proofs.shape.check_nodes.Goals as goal

pub loop-place-init : goal.loop-place-init
unfolding first_fault splits_before
loop-place-init c = search rules

pub returns-in_err-splits : goal.returns-in_err-splits
returns-in_err-splits c =
    let list : List ℤ = c.args.words.now in
    let place : ℕ = c.loop-place.place in
    let splits : ℕ = c.loop-place.splits in
    let are_counted : splits ≡ splits_before list place = c.loop-place.invariant.1 in
    let refused : c.place_node.result ≡ Err c.in_err-splits.field-0.0 = grind arith in
    let ill = placed_ill (node_at list place) place splits (sym c.place_node.ensures ∙ ap said refused) in
    let first = next_fault list place c.loop-place.invariant.2 ∙ ap (placed (node_at list place) place) (sym are_counted) ∙ ill in
    let before : place < c.args.n = omega arith in
    let fault = fault_stays list (suc place) c.args.n first before in
    passed_on c.from_residual.result _ c.from_residual.ensures.1 ∙ simp (ne_eqb _ _ c.if-n-eq0.false, fault)

pub loop-place-preserved : goal.loop-place-preserved
loop-place-preserved c =
    let list : List ℤ = c.args.words.now in
    let place : ℕ = c.loop-place.place in
    let splits : ℕ = c.loop-place.splits in
    let are_counted : splits ≡ splits_before list place = c.loop-place.invariant.1 in
    let answered : c.place_node.result ≡ Ok c.in_ok-splits.splits = grind arith in
    let well = placed_well (node_at list place) place splits _ (sym c.place_node.ensures ∙ ap said answered) in
    let first = next_fault list place c.loop-place.invariant.2 ∙ ap (placed (node_at list place) place) (sym are_counted) ∙ well.0 in (
      omega (arith, well.1, at_most_one list (node_at list place), c.loop-place.invariant.0),
      well.1 ∙ ap (λ (k : ℕ). k + splits_in (node_at list place)) are_counted ∙ sym (next_splits list place),
      rw (add-one place) first,
    )
