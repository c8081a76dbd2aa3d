-- `write_records` meets its contract: each turn writes the record of the first place that is queued.
use mathlib.Core.Path.{◌≡◌}
use Prim.Native.Nat.{◌-◌}
use Rattle.validation.proofs.ToDo.{nodes}
use Rattle.flatten.specs.Queue.{record_count}
use Rattle.flatten.specs.Ring.{ends}
use Rattle.flatten.proofs.Writing.{Writing}
use Rattle.flatten.proofs.write_records.Given as goal

abbrev pub invariant-loop-place : goal.invariant-loop-place
invariant-loop-place l = record {
  same : l.ring.words.ghost_name ≡ l.initial.ring.words.ghost_name;
  writing : Writing l.words l.initial.output (ends l.ring) l.ring.words.now l.output l.k;
}

abbrev pub decreases-loop-place : goal.decreases-loop-place
decreases-loop-place l = record_count l.words (nodes l.words) - l.k
