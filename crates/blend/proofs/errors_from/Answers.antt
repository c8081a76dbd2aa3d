-- `errors_from` meets its contract: what is within bounds does not wrap before its low word is taken.
use Rattle.std.proofs.Common.{arith}
use Rattle.blend.proofs.Sizes.{sizes}
use Rattle.blend.specs.Blend.{errors_of}
use Rattle.blend.proofs.errors_from.Goals as goal

pub returns : goal.returns
unfolding errors_of
returns c = search (arith, sizes)
