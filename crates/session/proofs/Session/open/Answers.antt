-- `open` meets its promise: a refusal is that of the tests, and past them neither memory nor cells refuse.
use borrow.Author.Tests.{le-ltb}
use lib.IntN.{pos}
use lib.ListN.{length}
use mathlib.Core.Bool.{true}
use mathlib.Core.Path.{◌≡◌, sym, ap, ◌∙◌}
use mir.Facts.{to_z-of_z}
use Rattle.cells.specs.Cells as cells
use Rattle.refusal.proofs.Outcomes.{same_given, passed_on}
use Rattle.refusal.specs.Paper.{Outcome, gives, refuses, number_of, details_of}
use Rattle.weighted.specs.declared.state.WeightedState.{WeightedState}
use Rattle.session.specs.Session.{Opening, opens}
use Rattle.session.proofs.Ends.{open_refused, started, open_done}
use Rattle.session.proofs.Granted.{OpenGranted, open_granted, starts_so}
use Rattle.session.proofs.Session.open.Goals as goal

-- ---- the tests refuse

refused : (c : goal.After-from_residual) → let s = c.args in let r = c.in_err-check_open.field-0.0 in
    opens s.width s.header s.weights s.mask s.channel s.stream s.cells.now s.memory.now
    ≡ record { says = refuses (number_of r) (details_of r); cells = s.cells.now; memory = s.memory.now }
refused c = let s = c.args in open_refused s.width s.header s.weights s.mask s.channel s.stream s.cells.now s.memory.now c.in_err-check_open.ensures

pub returns-in_err-check_open-clause-answers : goal.returns-in_err-check_open-clause-answers
returns-in_err-check_open-clause-answers c =
    passed_on c.from_residual.result _ c.from_residual.ensures.1 ∙ sym (ap (λ (o : Opening). o.says) (refused c))

pub returns-in_err-check_open-clause-cells_are : goal.returns-in_err-check_open-clause-cells_are
returns-in_err-check_open-clause-cells_are c = sym (ap (λ (o : Opening). o.cells) (refused c))

pub returns-in_err-check_open-clause-memory_is : goal.returns-in_err-check_open-clause-memory_is
returns-in_err-check_open-clause-memory_is c = sym (ap (λ (o : Opening). o.memory) (refused c))

-- ---- past them it is open

granted : (c : goal.In_ok-start_cells) → let s = c.args in OpenGranted s.header s.width s.weights (length s.cells.now) (length s.memory.now)
granted c = let s = c.args in open_granted s.header s.width s.weights (length s.cells.now) (length s.memory.now) (sym c.in_ok-check_open.ensures)

opened : (c : goal.In_ok-start_cells) → let s = c.args in
    opens s.width s.header s.weights s.mask s.channel s.stream s.cells.now s.memory.now ≡ started s.width s.header s.weights s.mask s.channel s.stream s.cells.now s.memory.now
opened c = let s = c.args in open_done s.width s.header s.weights s.mask s.channel s.stream s.cells.now s.memory.now c.in_ok-check_open.ensures

pub returns-clause-answers : goal.returns-clause-answers
returns-clause-answers c =
    let s = c.args in
    let state = same_given (c.in_ok-weighted.ensures.answers ∙ (starts_so s.header s.width s.weights (length s.cells.now) s.memory.now (granted c)).0) in
    ap (λ (w : WeightedState). gives (record { weighted = w; weights = s.weights; live = true; mask = s.mask; guess = pos 0; multiplier = 0 })) state
    ∙ sym (ap (λ (o : Opening). o.says) (opened c))

pub returns-clause-cells_are : goal.returns-clause-cells_are
returns-clause-cells_are c =
    let s = c.args in
    let enough : cells.starting (length s.cells.now) ≡ gives tt = rw (le-ltb (length s.cells.now) 16 (granted c).sixteen) in
    let told = simp (to_z-of_z c.ranges.channel, to_z-of_z c.ranges.stream) at c.in_ok-start_cells.ensures.holds in
    told
    ∙ ap (λ (o : Outcome Unit). cells.after (cells.start_cells s.channel s.stream (length s.cells.now)) o s.cells.now) enough
    ∙ sym (ap (λ (o : Opening). o.cells) (opened c))

pub returns-clause-memory_is : goal.returns-clause-memory_is
returns-clause-memory_is c =
    let s = c.args in
    c.in_ok-weighted.ensures.memory_is
    ∙ (starts_so s.header s.width s.weights (length s.cells.now) s.memory.now (granted c)).1
    ∙ sym (ap (λ (o : Opening). o.memory) (opened c))
