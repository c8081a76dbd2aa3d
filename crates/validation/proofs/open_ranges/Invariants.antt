-- `open_ranges` meets its contract. The loop's invariant: i ends are written, the rest are as they were.
use mathlib.Core.Path.{◌≡◌}
use Rattle.integer.specs.Fill.{filled}
use Rattle.validation.specs.Visit.{widest}
use Rattle.validation.proofs.open_ranges.Given as goal

abbrev pub invariant-loop-i : goal.invariant-loop-i
invariant-loop-i l = l.work ≡ filled widest l.i l.initial.work
