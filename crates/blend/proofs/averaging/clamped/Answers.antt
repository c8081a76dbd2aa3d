-- `clamped` meets its contract: the least and the most of the three, and between them the prediction.
use Rattle.std.proofs.Common.{arith}
use Rattle.blend.proofs.Sizes.{sizes, chosen, between}
use Rattle.std.proofs.lemmas.Int.{to_z-of_z}
use Rattle.blend.proofs.averaging.clamped.Goals as goal

pub returns-clause-value : goal.returns-clause-value
returns-clause-value c = grind (arith, to_z-of_z, chosen)

pub returns-clause-small : goal.returns-clause-small
returns-clause-small c = search (arith, sizes, chosen, between)
