-- `corrected` meets its contract: each operation fits, so that what the code holds is the number.
use Rattle.std.proofs.Common.{arith}
use Rattle.blend.proofs.Sizes.{sizes}
use Rattle.blend.proofs.sub_predictions.corrected.Goals as goal

pub times-requires-clause-small : goal.times-requires-clause-small
times-requires-clause-small c = search (arith, sizes)

pub overflow_sub-result : goal.overflow_sub-result
overflow_sub-result c = search (arith, sizes)

pub returns-clause-value : goal.returns-clause-value
returns-clause-value c = search (arith, sizes)

pub returns-clause-small : goal.returns-clause-small
returns-clause-small c = search (arith, sizes)
