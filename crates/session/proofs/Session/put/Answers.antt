-- `put` meets its promise: a refusal is that of the tests, and past them the weighted state learns and the pixel lies in the plane.
use lib.IntN.{ℤ}
use lib.ListN.{length, set}
use mathlib.Core.Path.{◌≡◌, sym, ap, ◌∙◌}
use mir.Facts.{to_z-of_z}
use mir.Syntax.{w32, w64}
use native.Mathlib.Omega.{arith}
use Prim.Native.Nat.{◌+◌, ◌*◌}
use Rattle.integer.proofs.Bounded.{held}
use Rattle.refusal.proofs.Outcomes.{no_refusal, passed_on}
use Rattle.refusal.specs.Paper.{Outcome, refuses, number_of, details_of}
use Rattle.weighted.specs.State.{done, next_state}
use Rattle.weighted.specs.declared.state.WeightedState.{WeightedState}
use Rattle.session.specs.Session.{Putting, width, column, line, unpacked, learnt, passed, puts}
use Rattle.session.proofs.Ends.{put_refused, stored, put_done}
use Rattle.session.proofs.Granted.{PutGranted, put_granted, learns_on_lem, learns_so}
use Rattle.session.proofs.Session.put.Goals as goal

-- ---- the tests refuse

refused : (c : goal.After-from_residual) → let s = c.args in let r = c.in_err-check_put.field-0.0 in
    puts s.self.now s.residual s.plane.now s.memory.now
    ≡ record { says = refuses (number_of r) (details_of r); session = s.self.now; plane = s.plane.now; memory = s.memory.now }
refused c = let s = c.args in put_refused s.self.now s.residual s.plane.now s.memory.now c.in_err-check_put.ensures

pub returns-in_err-check_put-clause-answers : goal.returns-in_err-check_put-clause-answers
returns-in_err-check_put-clause-answers c =
    passed_on c.from_residual.result _ c.from_residual.ensures.1 ∙ sym (ap (λ (p : Putting). p.says) (refused c))

pub returns-in_err-check_put-clause-session_is : goal.returns-in_err-check_put-clause-session_is
returns-in_err-check_put-clause-session_is c = sym (ap (λ (p : Putting). p.session) (refused c))

pub returns-in_err-check_put-clause-plane_is : goal.returns-in_err-check_put-clause-plane_is
returns-in_err-check_put-clause-plane_is c = sym (ap (λ (p : Putting). p.plane) (refused c))

pub returns-in_err-check_put-clause-memory_is : goal.returns-in_err-check_put-clause-memory_is
returns-in_err-check_put-clause-memory_is c = sym (ap (λ (p : Putting). p.memory) (refused c))

-- ---- past them the weighted state does not

no_refused : goal.After-from_residual-in_err-put → ⊥
no_refused c =
    let s = c.args in
    let granted = put_granted s.self.now (length s.plane.now) (length s.memory.now) (sym c.in_ok-check_put.ensures) in
    no_refusal (c.in_err-put.ensures.answers ∙ ap (λ (o : Outcome WeightedState). done o) (learns_on_lem s.self.now (length s.plane.now) s.memory.now granted))

pub returns-in_err-put-clause-answers : goal.returns-in_err-put-clause-answers
returns-in_err-put-clause-answers c = absurd (no_refused c)

pub returns-in_err-put-clause-session_is : goal.returns-in_err-put-clause-session_is
returns-in_err-put-clause-session_is c = absurd (no_refused c)

pub returns-in_err-put-clause-plane_is : goal.returns-in_err-put-clause-plane_is
returns-in_err-put-clause-plane_is c = absurd (no_refused c)

pub returns-in_err-put-clause-memory_is : goal.returns-in_err-put-clause-memory_is
returns-in_err-put-clause-memory_is c = absurd (no_refused c)

-- ---- the pixel lies in the plane

granted : (c : goal.In_ok-put) → let s = c.args in PutGranted s.self.now (length s.plane.now) (length s.memory.now)
granted c = let s = c.args in put_granted s.self.now (length s.plane.now) (length s.memory.now) (sym c.in_ok-check_put.ensures)

pub offset_bounds-plane-at : goal.offset_bounds-plane-at
offset_bounds-plane-at c = let g = granted c in omega (arith, g.placed.within, g.placed.inside, c.well_formed)

pub bounds-plane-at : goal.bounds-plane-at
bounds-plane-at c = let g = granted c in omega (arith, g.placed.within, g.placed.inside)

-- ---- and what is stored and learnt is its value

stores : (c : goal.In_ok-put) → let s = c.args in puts s.self.now s.residual s.plane.now s.memory.now ≡ stored s.self.now s.residual s.plane.now s.memory.now
stores c = let s = c.args in put_done s.self.now s.residual s.plane.now s.memory.now c.in_ok-check_put.ensures

value_is : (c : goal.In_ok-put) → c.unpack-value.result ≡ unpacked c.args.self.now c.args.residual
value_is c = simp (held w64 c.args.self.now.guess (omega arith), to_z-of_z c.ranges.residual) at c.unpack-value.ensures

pub returns-clause-answers : goal.returns-clause-answers
returns-clause-answers c = sym (ap (λ (p : Putting). p.says) (stores c))

pub returns-clause-session_is : goal.returns-clause-session_is
returns-clause-session_is c =
    let s = c.args in
    ap (λ (next : WeightedState). passed s.self.now next)
    (c.in_ok-put.ensures.state_is ∙ ap (λ (o : Outcome WeightedState). next_state s.self.now.weighted o) (learns_on_lem s.self.now (length s.plane.now) s.memory.now (granted c)))
    ∙ sym (ap (λ (p : Putting). p.session) (stores c))

pub returns-clause-plane_is : goal.returns-clause-plane_is
returns-clause-plane_is c =
    let s = c.args in
    let v = c.unpack-value.result in
    ap (λ (z : ℤ). set s.plane.now (line s.self.now * width s.self.now + column s.self.now) z) (held w32 v c.unpack-value.type_inv ∙ value_is c)
    ∙ sym (ap (λ (p : Putting). p.plane) (stores c))

pub returns-clause-memory_is : goal.returns-clause-memory_is
returns-clause-memory_is c =
    let s = c.args in
    let v = c.unpack-value.result in
    (simp (held w32 v c.unpack-value.type_inv) at c.in_ok-put.ensures.memory_is)
    ∙ learns_so s.self.now (length s.plane.now) s.memory.now (granted c) v
    ∙ ap (learnt s.self.now s.memory.now) (value_is c)
    ∙ sym (ap (λ (p : Putting). p.memory) (stores c))
