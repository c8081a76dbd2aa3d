-- `check_offsets` meets its contract. The loop's invariant: no wide offset so far.
use borrow.Author.Rules.{rules}
use lib.IntN.{ℤ}
use mathlib.Core.List.{List}
use mathlib.Core.Path.{◌≡◌, sym, ap, ◌∙◌}
use native.Mathlib.Numerals.{add-one}
use native.Mathlib.Omega.{arith}
use Prim.Native.Nat.{ℕ, suc, ◌<◌}
use Rattle.std.proofs.Common.{Ok, Err}
use Rattle.refusal.proofs.Outcomes.{passed_on}
use Rattle.refusal.specs.Paper.{said}
use Rattle.flatten.specs.Offsets.{first_wide}
use Rattle.flatten.proofs.Wide.{next_wide, wide_stays}
use Rattle.flatten.proofs.offsets.check_offsets.Goals as goal

pub loop-place-init : goal.loop-place-init
unfolding first_wide
loop-place-init c = search rules

pub returns-in_err-check_offset : goal.returns-in_err-check_offset
returns-in_err-check_offset c =
    let list : List ℤ = c.args.words.now in
    let place : ℕ = c.loop-place.place in
    let refused : c.check_offset.result ≡ Err c.in_err-check_offset.field-0.0 = grind arith in
    let wide = next_wide list place c.loop-place.invariant ∙ sym c.check_offset.ensures ∙ ap said refused in
    let before : place < c.args.n = omega arith in
    passed_on c.from_residual.result _ c.from_residual.ensures.1 ∙ sym (wide_stays list (suc place) c.args.n wide before)

pub loop-place-preserved : goal.loop-place-preserved
loop-place-preserved c =
    let list : List ℤ = c.args.words.now in
    let place : ℕ = c.loop-place.place in
    let fits : c.check_offset.result ≡ Ok tt = grind arith in
    rw (add-one place) (next_wide list place c.loop-place.invariant ∙ sym c.check_offset.ensures ∙ ap said fits)
