-- `pixel` meets its contract: a put that is refused leaves the plane.
use Rattle.unpack.proofs.Turn.{stays}
use Rattle.unpack.proofs.channel.pixel.Goals as goal

pub returns-clause-stays : goal.returns-clause-stays
returns-clause-stays c = stays c.put.result _ _ _ _ c.put.ensures.answers c.put.ensures.plane_is
