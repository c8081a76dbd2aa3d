-- `walk_flat` meets its contract: each turn either ends the walk or leads to a later place.
use mathlib.Core.Path.{sym, ap, ◌∙◌}
use mir.Facts.{to_z-of_z}
use mir.Syntax.{w32}
use mir.Val.{SFits}
use Prim.Native.Nat.{◌*◌}
use native.Mathlib.Numerals.{add-one}
use native.Mathlib.Omega.{arith}
use Rattle.nodes.specs.Nodes.{word}
use Rattle.refusal.specs.Paper.{gives, said}
use Rattle.walk.specs.declared.PredictionResult.{PredictionResult}
use Rattle.flat.proofs.Standing.{leaf_refused, answers_here, split_refused, properties_here, refused_next, stands_next}
use Rattle.flat.proofs.walk_flat.Goals as goal

pub returns-in-Err : goal.returns-in-Err
returns-in-Err c =
    let stands = simp (to_z-of_z c.ranges.wp_pred) at c.loop-data.invariant in
    let fit : SFits w32 (word c.args.words.now (6 * c.loop-data.place)) = record { sfits = omega arith } in
    leaf_refused stands fit c.if-words-at.true c.read_leaf.ensures (ap said c.in-Err.is)

pub returns-in-Ok : goal.returns-in-Ok
returns-in-Ok c =
    let stands = simp (to_z-of_z c.ranges.wp_pred) at c.loop-data.invariant in
    let fit : SFits w32 (word c.args.words.now (6 * c.loop-data.place)) = record { sfits = omega arith } in
    ap (λ (r : PredictionResult). gives r) (simp (to_z-of_z c.ranges.wp_pred, c.as_leaf.ensures) at c.answer.ensures)
    ∙ answers_here stands fit c.if-words-at.true c.read_leaf.ensures (ap said c.in-Ok.is)

pub returns-in-Err-read_split : goal.returns-in-Err-read_split
returns-in-Err-read_split c =
    let stands = simp (to_z-of_z c.ranges.wp_pred) at c.loop-data.invariant in
    let fit : SFits w32 (word c.args.words.now (6 * c.loop-data.place)) = record { sfits = omega arith } in
    split_refused stands fit c.if-words-at.false c.read_split.ensures (ap said c.in-Err-read_split.is)

pub step-requires : goal.step-requires
step-requires c =
    let fit : SFits w32 (word c.args.words.now (6 * c.loop-data.place)) = record { sfits = omega arith } in
    let small = properties_here c.loop-data.invariant fit c.if-words-at.false c.read_split.ensures (ap said c.in-Ok-read_split.is) in
    (omega (arith, c.loop-data.invariant.inside, c.requires.1), small.0, small.1, small.2)

pub returns-in-Err-step : goal.returns-in-Err-step
returns-in-Err-step c =
    let stands = simp (to_z-of_z c.ranges.wp_pred) at c.loop-data.invariant in
    let fit : SFits w32 (word c.args.words.now (6 * c.loop-data.place)) = record { sfits = omega arith } in
    refused_next stands fit c.if-words-at.false c.read_split.ensures (ap said c.in-Ok-read_split.is) (sym c.step.ensures ∙ ap said c.in-Err-step.is)

pub loop-data-smaller : goal.loop-data-smaller
loop-data-smaller c =
    let fit : SFits w32 (word c.args.words.now (6 * c.loop-data.place)) = record { sfits = omega arith } in
    let next = stands_next c.loop-data.invariant fit c.if-words-at.false c.read_split.ensures (ap said c.in-Ok-read_split.is) (sym c.step.ensures ∙ ap said c.in-Ok-step.is) in
    omega (arith, next.0, next.1.inside)

pub loop-data-preserved : goal.loop-data-preserved
loop-data-preserved c =
    let fit : SFits w32 (word c.args.words.now (6 * c.loop-data.place)) = record { sfits = omega arith } in
    let next = stands_next c.loop-data.invariant fit c.if-words-at.false c.read_split.ensures (ap said c.in-Ok-read_split.is) (sym c.step.ensures ∙ ap said c.in-Ok-step.is) in
    rw add-one next.1
