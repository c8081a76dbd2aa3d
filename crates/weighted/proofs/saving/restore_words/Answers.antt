-- `restore_words` meets its promise: before the loop no word is written, and each turn writes the next.
use lib.ListN.{length}
use mathlib.Core.Path.{sym}
use native.Mathlib.Omega.{arith}
use Prim.Native.Nat.{◌<◌}
use Rattle.integer.proofs.Fill.{filled_none, filled_more}
use Rattle.weighted.proofs.saving.restore_words.Goals as goal

pub loop-k-init : goal.loop-k-init
loop-k-init c = sym (filled_none _ _)

pub loop-k-preserved : goal.loop-k-preserved
loop-k-preserved c =
    let below : c.loop-k.k < length c.args.memory.now = omega arith in
    rw c.loop-k.invariant (filled_more _ _ _ below)
