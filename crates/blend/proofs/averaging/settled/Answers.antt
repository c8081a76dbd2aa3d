-- `settled` meets its contract: what is clamped, read back, is the choice where the errors part.
use Rattle.std.proofs.Common.{arith}
use Rattle.std.proofs.lemmas.Int.{to_z-of_z}
use Rattle.blend.proofs.averaging.settled.Goals as goal

pub returns-else-agreeing-clause-value : goal.returns-else-agreeing-clause-value
returns-else-agreeing-clause-value c = grind (arith, to_z-of_z)
