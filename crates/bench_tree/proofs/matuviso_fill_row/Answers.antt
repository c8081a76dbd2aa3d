-- `matuviso_fill_row` meets its promise: each pixel goes on, or ends the row.
use lib.ListN.{length}
use mathlib.Core.Path.{◌≡◌, sym, ap, ◌∙◌}
use native.Mathlib.Omega.{arith}
use Prim.Native.Nat.{◌*◌, ◌-◌, ◌/◌}
use Rattle.nodes.proofs.Lists.{rest}
use Rattle.bench_tree.specs.Row.{End, row_from}
use Rattle.bench_tree.proofs.Steps.{goes_on, ends}
use Rattle.bench_tree.proofs.matuviso_fill_row.Goals as goal

pub loop-x-preserved : goal.loop-x-preserved
loop-x-preserved c =
    let s = c.args in
    let neighbours = simp (rest s.«data».now (7 * c.loop-x.x)) at c.take_seven-neighbours.ensures in
    sym
    (goes_on s.mask s.y s.«data».now s.references.now c.loop-x.cells (length s.«data».now / 7) c.loop-x.x (omega arith) _ _ c.compute_properties.ensures.answers (simp neighbours at c.compute_properties.ensures.holds) c.in_default.is)
    ∙ c.loop-x.invariant

pub returns-in-Err : goal.returns-in-Err
returns-in-Err c =
    let s = c.args in
    let neighbours = simp (rest s.«data».now (7 * c.loop-x.x)) at c.take_seven-neighbours.ensures in
    let end = ends s.mask s.y s.«data».now s.references.now c.loop-x.cells (length s.«data».now / 7) c.loop-x.x (omega arith) _ _ c.compute_properties.ensures.answers (simp neighbours at c.compute_properties.ensures.holds) c.in-Err.refusal c.in-Err.is in
    let whole = sym end ∙ c.loop-x.invariant in
    record { answers = c.number.ensures ∙ ap (λ (e : End). e.status) whole; holds = ap (λ (e : End). e.cells) whole }

pub returns : goal.returns
unfolding row_from
returns c =
    let all : length c.args.«data».now / 7 - c.loop-x.x ≡ 0 = omega arith in
    let whole = rw all at c.loop-x.invariant in
    record { answers = ap (λ (e : End). e.status) whole; holds = ap (λ (e : End). e.cells) whole }
