-- `times` meets its contract: the product fits, and how large it is.
use Rattle.std.proofs.Common.{arith}
use Rattle.blend.proofs.Sizes.{sizes}
use Rattle.blend.proofs.sub_predictions.times.Goals as goal

pub returns-clause-value : goal.returns-clause-value
returns-clause-value c = search (arith, sizes)

pub returns-clause-small : goal.returns-clause-small
returns-clause-small c = search (arith, sizes)
