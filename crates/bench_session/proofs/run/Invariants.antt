-- The channel from here on ends as the whole channel does.
use Rattle.std.specs.Prelude.{◌≡◌, drop}
use Rattle.bench_session.specs.Run.{run, run_from}
use Rattle.bench_session.proofs.run.Given as goal

abbrev pub invariant-loop-k : goal.invariant-loop-k
invariant-loop-k l =
    run_from l.references l.records l.k l.session l.plane l.contexts l.cells l.memory (drop l.k l.residuals)
    ≡ run l.references l.records l.residuals l.initial.session l.initial.plane l.initial.contexts l.initial.cells l.initial.memory
