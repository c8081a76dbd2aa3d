-- `restore_all` meets its contract. The loop's invariant: i triples are restored in all three planes, the rest are as they were.
use mathlib.Core.Path.{◌≡◌}
use Rattle.integer.specs.Fill.{filled}
use Rattle.colour.specs.Restore.{restored, first, second, third}
use Rattle.colour.proofs.restore.restore_all.Given as goal

abbrev pub invariant-loop-i : goal.invariant-loop-i
invariant-loop-i l =
    (l.a ≡ filled (restored first l.operation l.order l.initial.a l.initial.b l.initial.c) l.i l.initial.a)
    × (l.b ≡ filled (restored second l.operation l.order l.initial.a l.initial.b l.initial.c) l.i l.initial.b)
    × (l.c ≡ filled (restored third l.operation l.order l.initial.a l.initial.b l.initial.c) l.i l.initial.c)
