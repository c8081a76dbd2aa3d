-- `walk_flat` meets its contract. The loop's invariant: the walk from the place on is the whole walk.
use Prim.Native.Nat.{◌-◌}
use Rattle.flat.specs.FlatWalk.{flat_from}
use Rattle.flat.proofs.Standing.{Stands}
use Rattle.flat.proofs.walk_flat.Given as goal

abbrev pub invariant-loop-data : goal.invariant-loop-data
invariant-loop-data l = Stands l.words l.cells l.count l.«data» l.wp_pred l.place l.hops (flat_from l.words l.cells l.count l.«data» l.wp_pred l.count 0 0)

abbrev pub decreases-loop-data : goal.decreases-loop-data
decreases-loop-data l = l.count - l.place
