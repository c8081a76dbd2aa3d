-- `add` meets its contract: four sums are read and written back.
use Rattle.weighted.specs.Memory.{added}
use Rattle.weighted.proofs.memory.add.Goals as goal

pub returns : goal.returns
unfolding added
returns c = rw (c.wrapped_sum-sum0.ensures, c.wrapped_sum-sum1.ensures, c.wrapped_sum-sum2.ensures, c.wrapped_sum-sum3.ensures)
