-- `put` meets its promise: a refusal is that of the tests, and past them what was found is possible, so that there are errors.
use lib.ListN.{length}
use mathlib.Core.Bool.{◌&&◌}
use mathlib.Core.Path.{sym, ap, ◌∙◌}
use mir.Facts.{to_z-of_z}
use Rattle.blend.specs.Blend.{possible}
use Rattle.integer.proofs.Tests.{and_right}
use Rattle.refusal.proofs.Outcomes.{passed_on}
use Rattle.weighted.specs.Memory.{updated}
use Rattle.weighted.specs.State.{done, next_state, after_put}
use Rattle.weighted.proofs.Allowed.{granted}
use Rattle.weighted.proofs.Turns.{put_refused, put_passed, put_given, errors_are, leaves_errors}
use Rattle.weighted.proofs.state.WeightedState.put.Goals as goal

pub returns-in_err-check-clause-answers : goal.returns-in_err-check-clause-answers
returns-in_err-check-clause-answers c =
    passed_on c.from_residual.result _ c.from_residual.ensures.1
    ∙ sym (ap done (put_refused c.args.self.now c.args.memory.now c.put_due.ensures c.in_err-check.field-0.0 c.in_err-check.ensures))

pub returns-in_err-check-clause-state_is : goal.returns-in_err-check-clause-state_is
returns-in_err-check-clause-state_is c =
    sym (ap (next_state c.args.self.now) (put_refused c.args.self.now c.args.memory.now c.put_due.ensures c.in_err-check.field-0.0 c.in_err-check.ensures))

pub returns-in_err-check-clause-holds : goal.returns-in_err-check-clause-holds
returns-in_err-check-clause-holds c =
    sym (ap (after_put c.args.self.now c.args.memory.now c.args.value) (put_refused c.args.self.now c.args.memory.now c.put_due.ensures c.in_err-check.field-0.0 c.in_err-check.ensures))

-- past the tests what was found is possible
pub returns-in_err-errors-clause-answers : goal.returns-in_err-errors-clause-answers
returns-in_err-errors-clause-answers c =
    let may = granted c.args.self.now (c.args.self.now.asked && possible c.args.self.now.found) (length c.args.memory.now)
    (put_passed c.args.self.now c.args.memory.now c.put_due.ensures c.in_ok-check.ensures) in
    absurd (leaves_errors c.args.self.now.found c.args.value (and_right c.args.self.now.asked (possible c.args.self.now.found) may.due)
    (simp (to_z-of_z c.ranges.value) at c.in_err-errors.ensures))

pub returns-in_err-errors-clause-state_is : goal.returns-in_err-errors-clause-state_is
returns-in_err-errors-clause-state_is c =
    let may = granted c.args.self.now (c.args.self.now.asked && possible c.args.self.now.found) (length c.args.memory.now)
    (put_passed c.args.self.now c.args.memory.now c.put_due.ensures c.in_ok-check.ensures) in
    absurd (leaves_errors c.args.self.now.found c.args.value (and_right c.args.self.now.asked (possible c.args.self.now.found) may.due)
    (simp (to_z-of_z c.ranges.value) at c.in_err-errors.ensures))

pub returns-in_err-errors-clause-holds : goal.returns-in_err-errors-clause-holds
returns-in_err-errors-clause-holds c =
    let may = granted c.args.self.now (c.args.self.now.asked && possible c.args.self.now.found) (length c.args.memory.now)
    (put_passed c.args.self.now c.args.memory.now c.put_due.ensures c.in_ok-check.ensures) in
    absurd (leaves_errors c.args.self.now.found c.args.value (and_right c.args.self.now.asked (possible c.args.self.now.found) may.due)
    (simp (to_z-of_z c.ranges.value) at c.in_err-errors.ensures))

pub update-requires : goal.update-requires
update-requires c =
    let may = granted c.args.self.now (c.args.self.now.asked && possible c.args.self.now.found) (length c.args.memory.now)
    (put_passed c.args.self.now c.args.memory.now c.put_due.ensures c.in_ok-check.ensures) in
    (may.narrow, may.inside, may.room)

pub returns-clause-answers : goal.returns-clause-answers
returns-clause-answers c = sym (ap done (put_given c.args.self.now c.args.memory.now c.put_due.ensures c.in_ok-check.ensures))

pub returns-clause-state_is : goal.returns-clause-state_is
returns-clause-state_is c =
    let may = granted c.args.self.now (c.args.self.now.asked && possible c.args.self.now.found) (length c.args.memory.now)
    (put_passed c.args.self.now c.args.memory.now c.put_due.ensures c.in_ok-check.ensures) in
    c.advance.ensures ∙ (rw may.placed (sym (ap (next_state c.args.self.now) (put_given c.args.self.now c.args.memory.now c.put_due.ensures c.in_ok-check.ensures))))

pub returns-clause-holds : goal.returns-clause-holds
returns-clause-holds c =
    let may = granted c.args.self.now (c.args.self.now.asked && possible c.args.self.now.found) (length c.args.memory.now)
    (put_passed c.args.self.now c.args.memory.now c.put_due.ensures c.in_ok-check.ensures) in
    let is = errors_are c.args.self.now.found c.args.value (and_right c.args.self.now.asked (possible c.args.self.now.found) may.due)
    (simp (to_z-of_z c.ranges.value) at c.in_ok-errors.ensures) in
    c.update.ensures ∙ ap (updated c.args.memory.now c.args.self.now.width c.args.self.now.x c.args.self.now.y) is
    ∙ sym (ap (after_put c.args.self.now c.args.memory.now c.args.value) (put_given c.args.self.now c.args.memory.now c.put_due.ensures c.in_ok-check.ensures))
