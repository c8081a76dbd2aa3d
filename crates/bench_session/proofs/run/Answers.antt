-- `run` meets its contract: past opening each pixel goes on, or ends the channel.
use lib.IntN.{pos}
use lib.ListN.{get_or, drop}
use mathlib.Core.Path.{sym, ap, ◌∙◌}
use mir.Facts.{to_z-of_z}
use mir.Syntax.{w32}
use native.Mathlib.Omega.{arith}
use Prim.Native.Nat.{◌+◌}
use Rattle.integer.proofs.Bounded.{held}
use Rattle.refusal.proofs.Outcomes.{passed_on}
use Rattle.std.proofs.lemmas.List.{drop_all}
use Rattle.told.specs.Told.{done_or}
use Rattle.bench_session.specs.Run.{run_from}
use Rattle.bench_session.proofs.Steps.{ask_ends, goes_on, leads_on, next_one, put_ends}
use Rattle.bench_session.proofs.run.Goals as goal

pub returns-in_err-contexts : goal.returns-in_err-contexts
returns-in_err-contexts c =
    let s = c.args in
    let l = c.loop-k in
    let opens_it = simp (to_z-of_z c.ranges.number, to_z-of_z c.ranges.stream) at c.in_ok-session.ensures in
    let whole = leads_on s.references.now s.records.now s.residuals.now s.width s.header s.weights s.mask s.number s.stream s.plane.now s.contexts.now s.cells.now s.memory.now opens_it.answers opens_it.cells_are opens_it.memory_is in
    let here = rw (next_one s.residuals.now l.k c.loop-k-test.true) at l.invariant in
    let end = ask_ends s.references.now s.records.now l.k l.session l.plane l.contexts l.cells l.memory (get_or s.residuals.now l.k (pos 0)) (drop (l.k + 1) s.residuals.now) c.in_err-contexts.field-0.0 c.in_err-contexts.ensures.answers c.in_err-contexts.ensures.cells_are in
    let number = ap done_or (passed_on c.from_residual-in_err-contexts.result _ c.from_residual-in_err-contexts.ensures.1) in
    record { is = rw number (sym end ∙ here ∙ sym whole) }

pub returns-in_err-put : goal.returns-in_err-put
returns-in_err-put c =
    let s = c.args in
    let l = c.loop-k in
    let opens_it = simp (to_z-of_z c.ranges.number, to_z-of_z c.ranges.stream) at c.in_ok-session.ensures in
    let whole = leads_on s.references.now s.records.now s.residuals.now s.width s.header s.weights s.mask s.number s.stream s.plane.now s.contexts.now s.cells.now s.memory.now opens_it.answers opens_it.cells_are opens_it.memory_is in
    let here = rw (next_one s.residuals.now l.k c.loop-k-test.true) at l.invariant in
    let puts_it = rw (held w32 (get_or s.residuals.now l.k (pos 0)) (omega arith)) at c.in_err-put.ensures in
    let asks_it = c.in_ok-contexts.ensures in
    let end = put_ends s.references.now s.records.now l.k l.session l.plane l.contexts l.cells l.memory (get_or s.residuals.now l.k (pos 0)) (drop (l.k + 1) s.residuals.now) asks_it.answers asks_it.session_is asks_it.cells_are c.in_err-put.field-0.0 puts_it.answers puts_it.plane_is puts_it.memory_is in
    let number = ap done_or (passed_on c.from_residual-in_err-put.result _ c.from_residual-in_err-put.ensures.1) in
    record { is = rw number (sym end ∙ here ∙ sym whole) }

pub loop-k-preserved : goal.loop-k-preserved
loop-k-preserved c =
    let s = c.args in
    let l = c.loop-k in
    let here = rw (next_one s.residuals.now l.k c.loop-k-test.true) at l.invariant in
    let puts_it = rw (held w32 (get_or s.residuals.now l.k (pos 0)) (omega arith)) at c.in_ok-put.ensures in
    let asks_it = c.in_ok-contexts.ensures in
    let on = goes_on s.references.now s.records.now l.k l.session l.plane l.contexts l.cells l.memory (get_or s.residuals.now l.k (pos 0)) (drop (l.k + 1) s.residuals.now) asks_it.answers asks_it.session_is asks_it.cells_are puts_it.answers puts_it.session_is puts_it.plane_is puts_it.memory_is in
    sym on ∙ here

pub returns : goal.returns
unfolding run_from
returns c =
    let s = c.args in
    let l = c.loop-k in
    let opens_it = simp (to_z-of_z c.ranges.number, to_z-of_z c.ranges.stream) at c.in_ok-session.ensures in
    let whole = leads_on s.references.now s.records.now s.residuals.now s.width s.header s.weights s.mask s.number s.stream s.plane.now s.contexts.now s.cells.now s.memory.now opens_it.answers opens_it.cells_are opens_it.memory_is in
    record { is = rw (drop_all l.k s.residuals.now c.loop-k-test.false) at l.invariant ∙ sym whole }
