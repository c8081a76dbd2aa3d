-- `weighed` meets its contract: each operation fits, so that what the code holds is the number.
use Rattle.std.proofs.Common.{arith}
use Rattle.blend.proofs.Sizes.{sizes}
use Rattle.blend.proofs.sub_predictions.weighed.Goals as goal

pub overflow_add-result : goal.overflow_add-result
overflow_add-result c = search (arith, sizes)

pub overflow_sub-result : goal.overflow_sub-result
overflow_sub-result c = search (arith, sizes)

pub returns-clause-value : goal.returns-clause-value
returns-clause-value c = search (arith, sizes)

pub returns-clause-small : goal.returns-clause-small
returns-clause-small c = search (arith, sizes)
