-- `mask_of` meets its contract: the bits of the first k nodes are gathered, and the first refusal stands.
use mathlib.Core.Path.{◌≡◌}
use Prim.Native.Nat.{◌-◌, ◌≤◌}
use Rattle.refusal.specs.Paper.{gives}
use Rattle.nodes.specs.Mask.{mask_up_to}
use Rattle.nodes.proofs.mask.mask_of.Given as goal

abbrev pub invariant-loop-k : goal.invariant-loop-k
invariant-loop-k l = (l.k ≤ l.nodes) × (mask_up_to l.words l.k ≡ gives l.mask)

abbrev pub decreases-loop-k : goal.decreases-loop-k
decreases-loop-k l = l.nodes - l.k
