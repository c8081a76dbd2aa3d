-- `check_offsets` meets its contract. The loop's invariant: no wide offset so far.
use mathlib.Core.Path.{◌≡◌}
use Rattle.refusal.specs.Paper.{gives}
use Rattle.flatten.specs.Offsets.{first_wide}
use Rattle.flatten.proofs.offsets.check_offsets.Given as goal

abbrev pub invariant-loop-place : goal.invariant-loop-place
invariant-loop-place l = first_wide l.words l.place ≡ gives tt
