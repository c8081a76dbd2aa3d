-- `open_ranges` meets its contract. The loop's invariant: i ends are written, the rest are as they were.
use lib.ListN.{length}
use mathlib.Core.Path.{sym, ◌∙◌}
use mir.Syntax.{w32}
use native.Mathlib.Omega.{arith}
use Prim.Native.Nat.{◌<◌}
use Rattle.integer.proofs.Bounded.{held}
use Rattle.integer.proofs.Fill.{filled_none, filled_more}
use Rattle.validation.specs.Visit.{widest}
use Rattle.validation.proofs.open_ranges.Goals as goal

pub loop-i-init : goal.loop-i-init
loop-i-init c = sym (filled_none _ _)

pub loop-i-preserved : goal.loop-i-preserved
loop-i-preserved c =
    let below : c.loop-i.i < length c.args.work.now = omega (arith, c.requires) in
    let is = held w32 _ c.widest_end.type_inv ∙ c.widest_end.ensures in
    rw c.loop-i.invariant (simp is (filled_more widest c.loop-i.i c.args.work.now below))
