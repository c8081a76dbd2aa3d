-- `check_nodes` meets its contract. The loop's invariant: no fault so far, and the splits so far are counted.
use mathlib.Core.Path.{◌≡◌}
use Prim.Native.Nat.{◌≤◌}
use Rattle.refusal.specs.Paper.{gives}
use Rattle.validation.specs.Shape.{splits_before, first_fault}
use Rattle.validation.proofs.shape.check_nodes.Given as goal

abbrev pub invariant-loop-place : goal.invariant-loop-place
invariant-loop-place l = (l.splits ≤ l.place) × (l.splits ≡ splits_before l.words l.place) × (first_fault l.words l.place ≡ gives tt)
