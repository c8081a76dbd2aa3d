-- `unpack_row` meets its contract: the tests, then the pixels.
use lib.IntN.{ℤ}
use lib.ListN.{length}
use mathlib.Core.List.{List}
use mathlib.Core.Path.{◌≡◌, sym, ap, ◌∙◌}
use native.Mathlib.Omega.{arith}
use Prim.Native.Nat.{ℕ, ◌/◌}
use Rattle.refusal.specs.Paper.{gives, number_of, details_of}
use Rattle.row.specs.Row.{Row, row_of, halted, answer_of, session_of, may_unpack, pixels_from, unpacks}
use Rattle.session.specs.declared.Session.{Session}
use Rattle.row.proofs.Granted.{row_granted}
use Rattle.row.proofs.unpack_row.Goals as goal

-- ---- the tests refuse

refused : (c : goal.In-Err) → let s = c.args in let r = c.in-Err.refusal in
    unpacks s.session.now s.residuals.now s.references.now s.records.now s.plane.now s.contexts.now s.cells.now s.memory.now
    ≡ row_of (halted 0 (number_of r) (details_of r) s.session.now) s.plane.now s.contexts.now s.cells.now s.memory.now
unfolding unpacks
refused c = rw (sym c.in-Err.ensures)

pub returns-in-Err-clause-answers : goal.returns-in-Err-clause-answers
returns-in-Err-clause-answers c = sym (ap (λ (r : Row). answer_of r.ended) (refused c))

pub returns-in-Err-clause-session_is : goal.returns-in-Err-clause-session_is
returns-in-Err-clause-session_is c = sym (ap (λ (r : Row). session_of r.ended) (refused c))

pub returns-in-Err-clause-plane_is : goal.returns-in-Err-clause-plane_is
returns-in-Err-clause-plane_is c = sym (ap (λ (r : Row). r.plane) (refused c))

pub returns-in-Err-clause-contexts_are : goal.returns-in-Err-clause-contexts_are
returns-in-Err-clause-contexts_are c = sym (ap (λ (r : Row). r.contexts) (refused c))

pub returns-in-Err-clause-cells_are : goal.returns-in-Err-clause-cells_are
returns-in-Err-clause-cells_are c = sym (ap (λ (r : Row). r.cells) (refused c))

pub returns-in-Err-clause-memory_is : goal.returns-in-Err-clause-memory_is
returns-in-Err-clause-memory_is c = sym (ap (λ (r : Row). r.memory) (refused c))

-- ---- past them each pixel has its residual, its context and its reference cells

pub pixels-requires : goal.pixels-requires
pixels-requires c =
    let s = c.args in
    let g = row_granted s.session.now (length s.plane.now) (length s.residuals.now) (length s.contexts.now) (length s.references.now) (sym c.in_default.ensures) in
    (omega (arith, g.residuals_long, g.placed.narrow), g.contexts_long ∙ sym g.residuals_long, rw g.residuals_long g.packed)

module _ (s : Session) (residuals references records plane : List ℤ) (contexts : List ℕ) (cells : List ℤ) (m : List ℕ) where
  passed : gives tt ≡ may_unpack s (length plane) (length residuals) (length contexts) (length references)
      → pixels_from residuals references records (length references / length residuals) (length residuals) 0 s plane contexts cells m
      ≡ unpacks s residuals references records plane contexts cells m
  unfolding unpacks
  passed says =
      let g = row_granted s (length plane) (length residuals) (length contexts) (length references) (sym says) in
      rw (sym says, g.residuals_long)

pub returns-clause-answers : goal.returns-clause-answers
returns-clause-answers c =
    let s = c.args in
    c.pixels.ensures.answers
    ∙ ap (λ (r : Row). answer_of r.ended) (passed s.session.now s.residuals.now s.references.now s.records.now s.plane.now s.contexts.now s.cells.now s.memory.now c.in_default.ensures)

pub returns-clause-session_is : goal.returns-clause-session_is
returns-clause-session_is c =
    let s = c.args in
    c.pixels.ensures.session_is
    ∙ ap (λ (r : Row). session_of r.ended) (passed s.session.now s.residuals.now s.references.now s.records.now s.plane.now s.contexts.now s.cells.now s.memory.now c.in_default.ensures)

pub returns-clause-plane_is : goal.returns-clause-plane_is
returns-clause-plane_is c =
    let s = c.args in
    c.pixels.ensures.plane_is
    ∙ ap (λ (r : Row). r.plane) (passed s.session.now s.residuals.now s.references.now s.records.now s.plane.now s.contexts.now s.cells.now s.memory.now c.in_default.ensures)

pub returns-clause-contexts_are : goal.returns-clause-contexts_are
returns-clause-contexts_are c =
    let s = c.args in
    c.pixels.ensures.contexts_are
    ∙ ap (λ (r : Row). r.contexts) (passed s.session.now s.residuals.now s.references.now s.records.now s.plane.now s.contexts.now s.cells.now s.memory.now c.in_default.ensures)

pub returns-clause-cells_are : goal.returns-clause-cells_are
returns-clause-cells_are c =
    let s = c.args in
    c.pixels.ensures.cells_are
    ∙ ap (λ (r : Row). r.cells) (passed s.session.now s.residuals.now s.references.now s.records.now s.plane.now s.contexts.now s.cells.now s.memory.now c.in_default.ensures)

pub returns-clause-memory_is : goal.returns-clause-memory_is
returns-clause-memory_is c =
    let s = c.args in
    c.pixels.ensures.memory_is
    ∙ ap (λ (r : Row). r.memory) (passed s.session.now s.residuals.now s.references.now s.records.now s.plane.now s.contexts.now s.cells.now s.memory.now c.in_default.ensures)
