-- `run` meets its contract: past opening, where the width is not 0, each row goes on, or ends the channel.
use lib.ListN.{length}
use mathlib.Core.Path.{◌≡◌, sym, ◌∙◌}
use mir.Facts.{to_z-of_z}
use native.Mathlib.Omega.{arith}
use Prim.Native.Nat.{◌+◌, ◌-◌, ◌*◌, ◌/◌}
use Rattle.bench_row.specs.Run.{rows_from}
use Rattle.bench_row.proofs.Steps.{goes_on, leads_on, row_ends, some_width}
use Rattle.bench_row.proofs.run.Goals as goal

pub nonzero_div-y-end : goal.nonzero_div-y-end
nonzero_div-y-end c =
    let s = c.args in
    let opens_it = simp (to_z-of_z c.ranges.number, to_z-of_z c.ranges.stream) at c.in_ok-session.ensures in
    some_width s.width s.references.now s.records.now s.residuals.now s.header s.weights s.mask s.number s.stream s.plane.now s.contexts.now s.cells.now s.memory.now opens_it.answers

pub returns-in-Err : goal.returns-in-Err
returns-in-Err c =
    let s = c.args in
    let l = c.loop-y in
    let size : l.y * s.width + s.width - l.y * s.width ≡ s.width = omega arith in
    let opens_it = simp (to_z-of_z c.ranges.number, to_z-of_z c.ranges.stream) at c.in_ok-session.ensures in
    let whole = leads_on s.width s.references.now s.records.now s.residuals.now s.header s.weights s.mask s.number s.stream s.plane.now s.contexts.now s.cells.now s.memory.now opens_it.answers opens_it.cells_are opens_it.memory_is in
    let row = rw size at c.in-Err.ensures in
    let end = row_ends s.width s.references.now s.records.now s.residuals.now l.session l.plane l.contexts l.cells l.memory (length s.residuals.now / s.width) l.y c.loop-y-test.true row.plane_is row.contexts_are row.cells_are row.memory_is c.in-Err.stopped row.answers in
    record { is = rw size (sym end ∙ l.invariant ∙ sym whole) }

pub loop-y-preserved : goal.loop-y-preserved
loop-y-preserved c =
    let s = c.args in
    let l = c.loop-y in
    let size : l.y * s.width + s.width - l.y * s.width ≡ s.width = omega arith in
    let row = rw size at c.in_default.ensures in
    let on = goes_on s.width s.references.now s.records.now s.residuals.now l.session l.plane l.contexts l.cells l.memory (length s.residuals.now / s.width) l.y c.loop-y-test.true row.plane_is row.contexts_are row.cells_are row.memory_is row.answers row.session_is in
    rw size (sym on ∙ l.invariant)

pub returns : goal.returns
unfolding rows_from
returns c =
    let s = c.args in
    let l = c.loop-y in
    let opens_it = simp (to_z-of_z c.ranges.number, to_z-of_z c.ranges.stream) at c.in_ok-session.ensures in
    let whole = leads_on s.width s.references.now s.records.now s.residuals.now s.header s.weights s.mask s.number s.stream s.plane.now s.contexts.now s.cells.now s.memory.now opens_it.answers opens_it.cells_are opens_it.memory_is in
    let all : length s.residuals.now / s.width - l.y ≡ 0 = omega (arith, c.loop-y-test.false) in
    record { is = rw all at l.invariant ∙ sym whole }
