-- `open` meets its promise: the words that are needed are cleared.
use borrow.Author.Tests.{le-leb}
use mathlib.Core.Bool.{true}
use mathlib.Core.Path.{◌≡◌, sym, ap, ◌∙◌}
use Prim.Native.Nat.{ℕ}
use Rattle.blend.specs.Blend.{in_range}
use Rattle.integer.proofs.Fill.{tabulate_constant}
use Rattle.integer.specs.Fill.{tabulate}
use Rattle.std.proofs.Math.ListN.{replicate}
use Rattle.std.proofs.lemmas.List.{length-take-le}
use Rattle.weighted.specs.Memory.{needed}
use Rattle.weighted.proofs.state.WeightedState.open.Goals as goal

pub returns-clause-holds : goal.returns-clause-holds
returns-clause-holds c =
    let ranged : in_range c.args.header ≡ true = sym c.in_range.ensures ∙ c.if-not-in_range.false in
    let long = length-take-le (needed c.args.width) c.args.memory.now c.if-memory-needed.false in
    let zeros : c.fill.new.self ≡ tabulate (λ k. 0) (needed c.args.width) =
    c.fill.ensures.after (λ y e. e) ∙ ap (λ (n : ℕ). replicate n 0) long ∙ sym (tabulate_constant 0 (needed c.args.width)) in
    simp (ranged, le-leb _ _ c.if-width-lt1.false, le-leb _ _ c.if-width-gt65536.false, le-leb _ _ c.if-memory-needed.false, zeros)
