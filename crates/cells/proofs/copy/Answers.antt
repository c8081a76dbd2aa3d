-- `copy` meets its contract: a turn copies one word more, and all of them are the list itself.
use lib.IntN.{ℤ, pos}
use lib.ListN.{length, get_or}
use mathlib.Core.List.{List}
use mathlib.Core.Path.{◌≡◌, sym, ap, ◌∙◌}
use mir.Syntax.{w32}
use native.Mathlib.Omega.{arith}
use Prim.Native.Nat.{ℕ, ◌<◌}
use Rattle.integer.proofs.Bounded.{held}
use Rattle.integer.proofs.Fill.{filled_none, filled_more, filled_all, tabulate_self}
use Rattle.integer.specs.Fill.{filled}
use Rattle.cells.proofs.copy.Goals as goal

abbrev cell : List ℤ → ℕ → ℤ
cell from k = get_or from k (pos 0)

pub loop-i-init : goal.loop-i-init
loop-i-init c = sym (filled_none _ _)

pub loop-i-preserved : goal.loop-i-preserved
loop-i-preserved c =
    let below : c.loop-i.i < length c.args.to.now = omega (arith, c.requires, c.loop-i-test.true) in
    simp (held w32 (cell c.args.from.now c.loop-i.i) (omega arith)) (rw c.loop-i.invariant (filled_more _ _ _ below))

pub returns : goal.returns
returns c =
    let from = c.args.from.now in
    let all : c.loop-i.i ≡ length from = omega (arith, c.loop-i.auto.i-end, c.loop-i-test.false) in
    c.loop-i.invariant
    ∙ ap (λ (k : ℕ). filled (cell from) k c.args.to.now) all
    ∙ filled_all (cell from) (length from) c.args.to.now c.requires ∙ tabulate_self from (pos 0)
