-- `reorder_all` meets its contract: order 0 leaves every word as it is.
use Rattle.colour.proofs.Planes.{untouched}
use Rattle.colour.proofs.restore.reorder_all.Goals as goal

pub returns-in-0 : goal.returns-in-0
returns-in-0 c =
    rw c.in-0.is (untouched c.args.a.now c.args.b.now c.args.c.now c.requires.0 c.requires.1)
