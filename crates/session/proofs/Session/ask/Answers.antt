-- `ask` meets its promise: a refusal is that of the tests, and past them neither the fetch nor the weighted state refuses.
use mathlib.Core.Bool.{Bool, true}
use mathlib.Core.Path.{◌≡◌, sym, ap, ◌∙◌}
use mir.Syntax.{w64}
use mir.Val.{to_z, of_z}
use native.Mathlib.Omega.{arith}
use Rattle.integer.proofs.Bounded.{held}
use Rattle.refusal.proofs.Outcomes.{passed_on}
use Rattle.refusal.specs.Paper.{gives, refuses, paper, number_of, details_of}
use Rattle.session.proofs.Ends.{ask_refused, fetch_passes, predict_passes, has_cells, living, ask_walked}
use Rattle.session.specs.Session.{Asking, asks, walked}
use Rattle.weighted.specs.State.{answered}
use Rattle.session.proofs.Session.ask.Goals as goal

-- ---- the tests refuse

refused : (c : goal.After-from_residual) → let s = c.args in let r = c.in_err-check_ask.field-0.0 in
    asks s.self.now s.plane.now s.references.now s.records.now s.cells.now s.memory.now ≡ record { says = refuses (number_of r) (details_of r); session = s.self.now; cells = s.cells.now }
refused c = let s = c.args in ask_refused s.self.now s.plane.now s.references.now s.records.now s.cells.now s.memory.now c.in_err-check_ask.ensures

pub returns-in_err-check_ask-clause-answers : goal.returns-in_err-check_ask-clause-answers
returns-in_err-check_ask-clause-answers c =
    passed_on c.from_residual.result _ c.from_residual.ensures.1 ∙ sym (ap (λ (a : Asking). a.says) (refused c))

pub returns-in_err-check_ask-clause-session_is : goal.returns-in_err-check_ask-clause-session_is
returns-in_err-check_ask-clause-session_is c = sym (ap (λ (a : Asking). a.session) (refused c))

pub returns-in_err-check_ask-clause-cells_are : goal.returns-in_err-check_ask-clause-cells_are
returns-in_err-check_ask-clause-cells_are c = sym (ap (λ (a : Asking). a.cells) (refused c))

-- ---- past them neither the fetch nor the weighted state does

no_fetch : goal.After-from_residual-in_err-data → ⊥
no_fetch c =
    let s = c.args in
    fetch_passes s.self.now s.plane.now s.references.now s.records.now s.cells.now s.memory.now c.in_ok-check_ask.ensures c.in_err-data.ensures

pub returns-in_err-data-clause-answers : goal.returns-in_err-data-clause-answers
returns-in_err-data-clause-answers c = absurd (no_fetch c)

pub returns-in_err-data-clause-session_is : goal.returns-in_err-data-clause-session_is
returns-in_err-data-clause-session_is c = absurd (no_fetch c)

pub returns-in_err-data-clause-cells_are : goal.returns-in_err-data-clause-cells_are
returns-in_err-data-clause-cells_are c = absurd (no_fetch c)

no_prediction : goal.After-from_residual-in_err-prediction → ⊥
no_prediction c =
    let s = c.args in
    predict_passes s.self.now s.plane.now s.references.now s.records.now s.cells.now s.memory.now c.in_ok-check_ask.ensures c.in_ok-data.data c.in_err-prediction.ensures

pub returns-in_err-prediction-clause-answers : goal.returns-in_err-prediction-clause-answers
returns-in_err-prediction-clause-answers c = absurd (no_prediction c)

pub returns-in_err-prediction-clause-session_is : goal.returns-in_err-prediction-clause-session_is
returns-in_err-prediction-clause-session_is c = absurd (no_prediction c)

pub returns-in_err-prediction-clause-cells_are : goal.returns-in_err-prediction-clause-cells_are
returns-in_err-prediction-clause-cells_are c = absurd (no_prediction c)

pub walk-requires : goal.walk-requires
walk-requires c =
    let s = c.args in
    has_cells s.self.now s.plane.now s.references.now s.records.now s.cells.now s.memory.now c.in_ok-check_ask.ensures

-- ---- the walk decides

closes : (c : goal.After-self-in-Err-1) → let s = c.args in let r = c.in-Err.refusal in
    asks s.self.now s.plane.now s.references.now s.records.now s.cells.now s.memory.now
    ≡ walked s.self.now (answered s.self.now.weighted c.in_ok-prediction.prediction) c.walk.new.cells (refuses (number_of r) (details_of r))
closes c =
    let s = c.args in
    ask_walked s.self.now s.plane.now s.references.now s.records.now s.cells.now s.memory.now c.in_ok-check_ask.ensures
    (paper c.in-Err.refusal) c.in_ok-data.ensures c.in_ok-prediction.ensures c.in-Err.ensures.cells_are c.in-Err.ensures.answers

pub returns-in-Err-clause-answers : goal.returns-in-Err-clause-answers
returns-in-Err-clause-answers c = sym (ap (λ (a : Asking). a.says) (closes c))

pub returns-in-Err-clause-session_is : goal.returns-in-Err-clause-session_is
returns-in-Err-clause-session_is c = sym (ap (λ (a : Asking). a.session) (closes c))

pub returns-in-Err-clause-cells_are : goal.returns-in-Err-clause-cells_are
returns-in-Err-clause-cells_are c = sym (ap (λ (a : Asking). a.cells) (closes c))

stands : (c : goal.After-self-in-Ok-1) → let s = c.args in
    asks s.self.now s.plane.now s.references.now s.records.now s.cells.now s.memory.now
    ≡ walked s.self.now (answered s.self.now.weighted c.in_ok-prediction.prediction) c.walk.new.cells (gives c.in-Ok.result)
stands c =
    let s = c.args in
    ask_walked s.self.now s.plane.now s.references.now s.records.now s.cells.now s.memory.now c.in_ok-check_ask.ensures
    (gives c.in-Ok.result) c.in_ok-data.ensures c.in_ok-prediction.ensures c.in-Ok.ensures.cells_are c.in-Ok.ensures.answers

pub returns-in-Ok-clause-answers : goal.returns-in-Ok-clause-answers
returns-in-Ok-clause-answers c = sym (ap (λ (a : Asking). a.says) (stands c))

pub returns-in-Ok-clause-session_is : goal.returns-in-Ok-clause-session_is
returns-in-Ok-clause-session_is c =
    let s = c.args in
    let guess_is : to_z w64 (of_z w64 c.in-Ok.result.guess) ≡ c.in-Ok.result.guess = held w64 c.in-Ok.result.guess (omega arith) in
    let lives : s.self.now.live ≡ true = living s.self.now s.plane.now s.references.now s.records.now s.cells.now s.memory.now c.in_ok-check_ask.ensures in
    let state = (answered s.self.now.weighted c.in_ok-prediction.prediction).state in
    rw (c.answer.ensures.state_is, guess_is)
    (ap (λ (l : Bool). record { weighted = state; weights = s.self.now.weights; live = l; mask = s.self.now.mask; guess = c.in-Ok.result.guess; multiplier = c.in-Ok.result.multiplier }) lives
    ∙ sym (ap (λ (a : Asking). a.session) (stands c)))

pub returns-in-Ok-clause-cells_are : goal.returns-in-Ok-clause-cells_are
returns-in-Ok-clause-cells_are c = sym (ap (λ (a : Asking). a.cells) (stands c))
