-- `agreeing` meets its contract: the least and the most of the three, read back, decide each test.
use Rattle.std.proofs.Common.{arith}
use Rattle.std.proofs.lemmas.Int.{ints, to_z-of_z}
use Rattle.blend.proofs.averaging.agreeing.Goals as goal

pub returns-then-least-ge0 : goal.returns-then-least-ge0
returns-then-least-ge0 c = grind (arith, to_z-of_z, ints, c.least-least.ensures, c.most-most.ensures)

pub returns-else-least-ge0 : goal.returns-else-least-ge0
returns-else-least-ge0 c = grind (arith, to_z-of_z, ints, c.least-least.ensures, c.most-most.ensures)

pub returns-else-least-most : goal.returns-else-least-most
returns-else-least-most c = grind (arith, to_z-of_z, ints, c.least-least.ensures, c.most-most.ensures)
