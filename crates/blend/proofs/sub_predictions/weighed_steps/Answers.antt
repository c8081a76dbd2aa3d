-- `weighed_steps` meets its contract: each operation fits, so that what the code holds is the number.
use Rattle.std.proofs.Common.{arith}
use Rattle.blend.proofs.Sizes.{sizes}
use Rattle.blend.proofs.sub_predictions.weighed_steps.Goals as goal

pub overflow_sub-nw : goal.overflow_sub-nw
overflow_sub-nw c = search (arith, sizes)

pub times-requires-clause-small : goal.times-requires-clause-small
times-requires-clause-small c = search (arith, sizes)

pub times-requires-2-clause-small : goal.times-requires-2-clause-small
times-requires-2-clause-small c = search (arith, sizes)

pub overflow_add-result : goal.overflow_add-result
overflow_add-result c = search (arith, sizes)

pub returns-clause-value : goal.returns-clause-value
returns-clause-value c = search (arith, sizes)

pub returns-clause-small : goal.returns-clause-small
returns-clause-small c = search (arith, sizes)
