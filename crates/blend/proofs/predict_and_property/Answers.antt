-- `predict_and_property` meets its promise: the guess fits, so that what the code holds is the number.
use Rattle.std.proofs.Common.{arith}
use Rattle.blend.proofs.Sizes.{sizes}
use Rattle.blend.proofs.predict_and_property.Goals as goal

pub returns : goal.returns
returns c = search (arith, sizes)
