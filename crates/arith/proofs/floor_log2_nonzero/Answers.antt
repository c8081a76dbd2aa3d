-- `floor_log2_nonzero` meets its promise: the leading zeros, the highest set bit and the bits below it make 64.
use native.Mathlib.Omega.{arith}
use Rattle.arith.proofs.Halvings.{some_set, none_set}
use Rattle.arith.proofs.floor_log2_nonzero.Goals as goal

pub returns-then-zeros-lt64 : goal.returns-then-zeros-lt64
returns-then-zeros-lt64 c = some_set c.args.x c.ranges.x.fits (omega arith)

pub returns-else-zeros-lt64 : goal.returns-else-zeros-lt64
returns-else-zeros-lt64 c = none_set c.args.x c.ranges.x.fits (omega arith)
