-- `weighed_errors` meets its contract: each operation fits, so that what the code holds is the number.
use Rattle.std.proofs.Common.{arith}
use Rattle.blend.proofs.Sizes.{sizes}
use Rattle.blend.proofs.sub_predictions.weighed_errors.Goals as goal

pub overflow_add-result-2 : goal.overflow_add-result-2
overflow_add-result-2 c = search (arith, sizes)

pub returns-clause-value : goal.returns-clause-value
returns-clause-value c = search (arith, sizes)

pub returns-clause-small : goal.returns-clause-small
returns-clause-small c = search (arith, sizes)
