-- `predict` meets its promise: a refusal is that of the tests, and past them the header is in range, so that there is a prediction.
use lib.ListN.{length}
use mathlib.Core.Bool.{not}
use mathlib.Core.Path.{sym, ap₂, ◌∙◌}
use Rattle.refusal.proofs.Outcomes.{passed_on}
use Rattle.blend.specs.Blend.{prediction}
use Rattle.arith.specs.declared.Four.{Four}
use Rattle.blend.specs.declared.TrueErrors.{TrueErrors}
use Rattle.weighted.proofs.Allowed.{granted}
use Rattle.weighted.proofs.Turns.{predict_refused, predicted}
use Rattle.weighted.proofs.state.WeightedState.predict.Goals as goal

pub returns-in_err-check : goal.returns-in_err-check
returns-in_err-check c =
    passed_on c.from_residual.result _ c.from_residual.ensures.1
    ∙ predict_refused c.args.self.now c.args.memory.now c.args.«data» c.in_err-check.field-0.0 c.in_err-check.ensures

pub errors_around-errors-requires : goal.errors_around-errors-requires
errors_around-errors-requires c =
    let g = granted c.args.self.now (not c.args.self.now.asked) (length c.args.memory.now) (sym c.in_ok-check.ensures) in
    (g.narrow, g.inside, g.room)

pub sums_around-sums-requires : goal.sums_around-sums-requires
sums_around-sums-requires c =
    let g = granted c.args.self.now (not c.args.self.now.asked) (length c.args.memory.now) (sym c.in_ok-check.ensures) in
    (g.narrow, g.inside, g.room)

pub returns : goal.returns
returns c =
    let g = granted c.args.self.now (not c.args.self.now.asked) (length c.args.memory.now) (sym c.in_ok-check.ensures) in
    c.predict_and_property.ensures
    ∙ ap₂ (λ (e : TrueErrors) (sums : Four). prediction c.args.self.now.header c.args.«data» e sums) c.errors_around-errors.ensures c.sums_around-sums.ensures
    ∙ predicted c.args.self.now c.args.memory.now c.args.«data» c.in_ok-check.ensures g.header_in_range
