-- `restore_parts` meets its contract. The loop's invariant: the planes are restored up to `start`, and as they were from there on.
use lib.ListN.{length}
use mathlib.Core.Path.{◌≡◌}
use Prim.Native.Nat.{◌-◌, ◌≤◌}
use Rattle.integer.specs.Fill.{filled}
use Rattle.colour.specs.Restore.{restored, first, second, third}
use Rattle.colour.proofs.restore.restore_parts.Given as goal

abbrev pub invariant-loop-start : goal.invariant-loop-start
invariant-loop-start l =
    (l.start ≤ l.n) × (l.n ≡ length l.initial.a) × (l.n ≡ length l.initial.b) × (l.n ≡ length l.initial.c)
    × (l.a ≡ filled (restored first l.operation l.order l.initial.a l.initial.b l.initial.c) l.start l.initial.a)
    × (l.b ≡ filled (restored second l.operation l.order l.initial.a l.initial.b l.initial.c) l.start l.initial.b)
    × (l.c ≡ filled (restored third l.operation l.order l.initial.a l.initial.b l.initial.c) l.start l.initial.c)

abbrev pub decreases-loop-start : goal.decreases-loop-start
decreases-loop-start l = l.n - l.start
