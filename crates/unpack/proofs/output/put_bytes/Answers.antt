-- `put_bytes` meets its contract. The loop's invariant: i bytes are written, the rest are as they were.
use lib.ListN.{length}
use mathlib.Core.Path.{sym}
use native.Mathlib.Omega.{arith}
use Prim.Native.Nat.{◌<◌}
use Rattle.integer.proofs.Fill.{filled_none, filled_more}
use Rattle.unpack.proofs.Sizes.{size_most}
use Rattle.unpack.proofs.output.put_bytes.Goals as goal

pub loop-i-init : goal.loop-i-init
loop-i-init c = sym (filled_none _ _)

pub overflow_add-from : goal.overflow_add-from
overflow_add-from c = omega (arith, c.requires, c.well_formed, size_most c.args.picture (length c.args.plane.now))

pub loop-i-preserved : goal.loop-i-preserved
loop-i-preserved c =
    let below : c.loop-i.i < length c.args.bytes.now = omega arith in
    rw (c.byte_of.ensures, c.loop-i.invariant) (filled_more _ _ _ below)
