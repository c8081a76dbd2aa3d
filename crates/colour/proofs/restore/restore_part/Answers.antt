-- `restore_part` meets its contract: an operation and then an order is the two at once.
use Rattle.colour.proofs.Planes.{composed}
use Rattle.colour.proofs.restore.restore_part.Goals as goal

pub returns : goal.returns
returns c = composed c.operate_all.ensures c.reorder_all.ensures
