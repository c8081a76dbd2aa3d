-- `weight_of` meets its contract: the place of x + 1 is at most 32, so each shift is below 32.
use native.Mathlib.Omega.{arith}
use Rattle.arith.proofs.Index.{place_bound}
use Rattle.arith.proofs.weight_of.Goals as goal

pub overflow_shr-x : goal.overflow_shr-x
overflow_shr-x c = omega (arith, place_bound _ _ c.ranges.x.fits c.floor_log2_nonzero-log.ensures)

pub overflow_shr-result : goal.overflow_shr-result
overflow_shr-result c = omega (arith, place_bound _ _ c.ranges.x.fits c.floor_log2_nonzero-log.ensures)
