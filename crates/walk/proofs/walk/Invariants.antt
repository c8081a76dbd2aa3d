-- `walk` meets its contract. The loop's invariant: the walk from the place on is the whole walk.
use Prim.Native.Nat.{◌-◌}
use Rattle.walk.specs.Walk.{walk_from}
use Rattle.walk.proofs.Standing.{Stands}
use Rattle.walk.proofs.walk.Given as goal

abbrev pub invariant-loop-refusal : goal.invariant-loop-refusal
invariant-loop-refusal l = Stands l.words l.cells l.n l.«data» l.wp_pred l.place l.hops (walk_from l.words l.cells l.n l.«data» l.wp_pred l.n 0 0)

abbrev pub decreases-loop-refusal : goal.decreases-loop-refusal
decreases-loop-refusal l = l.n - l.place
