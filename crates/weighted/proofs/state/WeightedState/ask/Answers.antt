-- `ask` meets its promise: what is found is remembered, and a refusal leaves the state.
use mathlib.Core.Path.{sym, ap, ◌∙◌}
use Rattle.refusal.proofs.Outcomes.{passed_on}
use Rattle.weighted.specs.State.{tells, after_ask}
use Rattle.weighted.proofs.Turns.{ask_refused, ask_given}
use Rattle.weighted.proofs.state.WeightedState.ask.Goals as goal

pub returns-in_err-prediction-clause-answers : goal.returns-in_err-prediction-clause-answers
returns-in_err-prediction-clause-answers c =
    passed_on c.from_residual.result _ c.from_residual.ensures.1
    ∙ sym (ap tells (ask_refused c.args.self.now c.args.memory.now c.args.«data» c.in_err-prediction.field-0.0 c.in_err-prediction.ensures))

pub returns-in_err-prediction-clause-state_is : goal.returns-in_err-prediction-clause-state_is
returns-in_err-prediction-clause-state_is c =
    sym (ap (after_ask c.args.self.now) (ask_refused c.args.self.now c.args.memory.now c.args.«data» c.in_err-prediction.field-0.0 c.in_err-prediction.ensures))

pub returns-clause-answers : goal.returns-clause-answers
returns-clause-answers c =
    rw c.answer.ensures.answers
    (sym (ap tells (ask_given c.args.self.now c.args.memory.now c.args.«data» c.in_ok-prediction.prediction c.in_ok-prediction.ensures)))

pub returns-clause-state_is : goal.returns-clause-state_is
returns-clause-state_is c =
    c.answer.ensures.state_is
    ∙ sym (ap (after_ask c.args.self.now) (ask_given c.args.self.now c.args.memory.now c.args.«data» c.in_ok-prediction.prediction c.in_ok-prediction.ensures))
