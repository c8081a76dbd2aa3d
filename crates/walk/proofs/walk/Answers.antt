-- `walk` meets its contract: each turn either ends the walk or leads to a later place.
use mathlib.Core.Path.{sym, ap, ◌∙◌}
use mir.Facts.{to_z-of_z}
use native.Mathlib.Numerals.{add-one}
use native.Mathlib.Omega.{arith}
use Rattle.nodes.specs.declared.Node.{Node}
use Rattle.refusal.specs.Paper.{gives, said}
use Rattle.walk.specs.declared.PredictionResult.{PredictionResult}
use Rattle.walk.proofs.Standing.{refused_here, answers_here, property_here, refused_next, stands_next}
use Rattle.walk.proofs.walk.Goals as goal

pub returns-in-Err : goal.returns-in-Err
returns-in-Err c =
    let stands = simp (to_z-of_z c.ranges.wp_pred) at c.loop-refusal.invariant in
    refused_here stands c.read_node.ensures (ap said c.in-Err.is)

pub returns-in-Ok-Leaf : goal.returns-in-Ok-Leaf
returns-in-Ok-Leaf c =
    let stands = simp (to_z-of_z c.ranges.wp_pred) at c.loop-refusal.invariant in
    ap (λ (r : PredictionResult). gives r) (simp (to_z-of_z c.ranges.wp_pred) at c.answer.ensures)
    ∙ answers_here stands c.read_node.ensures (ap said c.in-Ok-Leaf.is ∙ ap (λ (n : Node). gives n) c.in-Ok-Leaf.field-0-is)

pub step-requires : goal.step-requires
step-requires c =
    (omega (arith, c.loop-refusal.invariant.inside, c.requires.1), property_here c.loop-refusal.invariant c.read_node.ensures (ap said c.in-Ok-Split.is ∙ ap (λ (n : Node). gives n) c.in-Ok-Split.field-0-is))

pub returns-in-Err-step : goal.returns-in-Err-step
returns-in-Err-step c =
    let stands = simp (to_z-of_z c.ranges.wp_pred) at c.loop-refusal.invariant in
    refused_next stands c.read_node.ensures (ap said c.in-Ok-Split.is ∙ ap (λ (n : Node). gives n) c.in-Ok-Split.field-0-is) (sym c.step.ensures ∙ ap said c.in-Err-step.is)

pub loop-refusal-smaller : goal.loop-refusal-smaller
loop-refusal-smaller c =
    let next = stands_next c.loop-refusal.invariant c.read_node.ensures (ap said c.in-Ok-Split.is ∙ ap (λ (n : Node). gives n) c.in-Ok-Split.field-0-is) (sym c.step.ensures ∙ ap said c.in-Ok.is) in
    omega (arith, next.0, next.1.inside)

pub loop-refusal-preserved : goal.loop-refusal-preserved
loop-refusal-preserved c =
    let next = stands_next c.loop-refusal.invariant c.read_node.ensures (ap said c.in-Ok-Split.is ∙ ap (λ (n : Node). gives n) c.in-Ok-Split.field-0-is) (sym c.step.ensures ∙ ap said c.in-Ok.is) in
    rw add-one next.1
