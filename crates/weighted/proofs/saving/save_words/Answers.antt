-- `save_words` meets its promise: before the loops no word is saved, each turn saves the next, and a row's end is the next row's begin.
use lib.Arith.{digits_lt}
use lib.ListN.{length, set}
use mathlib.Core.List.{List}
use mathlib.Core.Path.{◌≡◌, sym, ap, ap₂, ◌∙◌}
use native.Mathlib.Nat.{add-mul}
use native.Mathlib.Omega.{arith}
use Prim.Native.Nat.{ℕ, ◌+◌, ◌*◌, ◌<◌}
use Rattle.integer.proofs.Fill.{filled_none, filled_more}
use Rattle.integer.specs.Fill.{filled}
use Rattle.weighted.specs.Memory.{positions}
use Rattle.weighted.specs.Saved.{saved_word}
use Rattle.weighted.proofs.Copied.{saved_cell}
use Rattle.weighted.proofs.saving.save_words.Goals as goal

pub loop-row-init : goal.loop-row-init
loop-row-init c =
    let none : 0 ≡ 0 * positions c.args.width = omega arith in
    sym (filled_none _ _) ∙ ap (λ (n : ℕ). filled (saved_word c.args.memory.now c.args.width) n c.args.saved.now) none

pub loop-x-preserved : goal.loop-x-preserved
loop-x-preserved c =
    let at : ℕ = c.loop-row.row * positions c.args.width + c.loop-x.x in
    let within = digits_lt c.loop-row-test.true c.loop-x-test.true in
    let below : at < length c.args.saved.now = omega (arith, within) in
    let word = saved_cell c.args.memory.now c.args.width c.loop-row.row c.loop-x.x c.loop-x-test.true in
    let next : at + 1 ≡ c.loop-row.row * positions c.args.width + (c.loop-x.x + 1) = omega arith in
    ap₂ (λ (d : List ℕ) (v : ℕ). set d at v) c.loop-x.invariant word
    ∙ filled_more _ _ _ below
    ∙ ap (λ (n : ℕ). filled (saved_word c.args.memory.now c.args.width) n c.args.saved.now) next

pub loop-row-preserved : goal.loop-row-preserved
loop-row-preserved c =
    let whole : c.loop-x.x ≡ positions c.args.width = omega (arith, c.loop-x.auto.x-end) in
    let next : c.loop-row.row * positions c.args.width + c.loop-x.x ≡ (c.loop-row.row + 1) * positions c.args.width =
    omega (arith, whole, add-mul c.loop-row.row 1 (positions c.args.width)) in
    c.loop-x.invariant ∙ ap (λ (n : ℕ). filled (saved_word c.args.memory.now c.args.width) n c.args.saved.now) next
