-- The channel from here on ends as the whole channel does.
use lib.ListN.{length}
use mathlib.Core.Path.{◌≡◌}
use Prim.Native.Nat.{◌-◌, ◌/◌}
use Rattle.bench_row.specs.Run.{rows_from}
use Rattle.bench_row.proofs.run.Given as goal

abbrev pub invariant-loop-y : goal.invariant-loop-y
invariant-loop-y l =
    let n = length l.residuals / l.width in
    rows_from l.width l.references l.records l.residuals (n - l.y) l.y l.session l.plane l.contexts l.cells l.memory
    ≡ rows_from l.width l.references l.records l.residuals n 0 l.initial.session l.initial.plane l.initial.contexts l.initial.cells l.initial.memory
