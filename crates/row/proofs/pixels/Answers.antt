-- `pixels` meets its contract. The invariant: the row from here on ends as the whole row does.
use lib.IntN.{ℤ, pos}
use lib.ListN.{length, length-set, get_or, set, take, drop}
use mathlib.Core.List.{List}
use mathlib.Core.Path.{◌≡◌, sym, ap, ◌∙◌}
use mir.Syntax.{w32}
use mir.Val.{to_z, of_z}
use native.Mathlib.Omega.{arith}
use Prim.Native.Nat.{ℕ, ◌+◌, ◌-◌, ◌*◌}
use Rattle.integer.proofs.Bounded.{held}
use Rattle.refusal.specs.Paper.{number_of, details_of}
use Rattle.row.specs.Row.{Row, row_of, all, halted, answer_of, session_of, part_of, pixels_from}
use Rattle.row.proofs.Steps.{ask_ends, put_ends, goes_on}
use Rattle.row.proofs.pixels.Goals as goal

-- a pixel's part of the reference cells, as the call slices it
part : (residuals references records : List ℤ) (each k : ℕ)
    → take (k * each + each - k * each) (drop (k * each) references) ≡ part_of residuals references records each k
part residuals references records each k =
    let size : k * each + each - k * each ≡ each = omega arith in
    ap (λ (n : ℕ). take n (drop (k * each) references)) size

-- ---- an ask is refused

asked : (c : goal.In-Err) → let s = c.args in let l = c.loop-k in let r = c.in-Err.refusal in
    row_of (halted l.k (number_of r) (details_of r) c.ask.new.self) l.plane l.contexts c.ask.new.cells l.memory
    ≡ pixels_from s.residuals.now s.references.now s.records.now s.each (length s.residuals.now) 0 s.session.now s.plane.now s.contexts.now s.cells.now s.memory.now
asked c =
    let s = c.args in
    let l = c.loop-k in
    sym (ask_ends s.residuals.now s.references.now s.records.now s.each l.session l.plane l.contexts l.cells l.memory (length s.residuals.now) l.k c.loop-k-test.true _
    (part s.residuals.now s.references.now s.records.now s.each l.k) c.in-Err.ensures.session_is c.in-Err.ensures.cells_are c.in-Err.ensures.answers)
    ∙ l.invariant.1

pub returns-in-Err-clause-answers : goal.returns-in-Err-clause-answers
returns-in-Err-clause-answers c = ap (λ (r : Row). answer_of r.ended) (asked c)

pub returns-in-Err-clause-session_is : goal.returns-in-Err-clause-session_is
returns-in-Err-clause-session_is c = ap (λ (r : Row). session_of r.ended) (asked c)

pub returns-in-Err-clause-plane_is : goal.returns-in-Err-clause-plane_is
returns-in-Err-clause-plane_is c = ap (λ (r : Row). r.plane) (asked c)

pub returns-in-Err-clause-contexts_are : goal.returns-in-Err-clause-contexts_are
returns-in-Err-clause-contexts_are c = ap (λ (r : Row). r.contexts) (asked c)

pub returns-in-Err-clause-cells_are : goal.returns-in-Err-clause-cells_are
returns-in-Err-clause-cells_are c = ap (λ (r : Row). r.cells) (asked c)

pub returns-in-Err-clause-memory_is : goal.returns-in-Err-clause-memory_is
returns-in-Err-clause-memory_is c = ap (λ (r : Row). r.memory) (asked c)

-- ---- a put is

put : (c : goal.In-Err-put) → let s = c.args in let l = c.loop-k in let r = c.in-Err-put.refusal in
    row_of (halted l.k (number_of r) (details_of r) c.put.new.self) c.put.new.plane (set l.contexts l.k c.in-Ok.context) c.ask.new.cells c.put.new.memory
    ≡ pixels_from s.residuals.now s.references.now s.records.now s.each (length s.residuals.now) 0 s.session.now s.plane.now s.contexts.now s.cells.now s.memory.now
put c =
    let s = c.args in
    let l = c.loop-k in
    let e = c.in-Err-put.ensures in
    let v = get_or s.residuals.now l.k (pos 0) in
    sym (put_ends s.residuals.now s.references.now s.records.now s.each l.session l.plane l.contexts l.cells l.memory (length s.residuals.now) l.k c.loop-k-test.true _
    (part s.residuals.now s.references.now s.records.now s.each l.k) c.in-Ok.ensures.session_is c.in-Ok.ensures.cells_are c.in-Ok.ensures.answers
    (to_z w32 (of_z w32 v)) (held w32 v (omega arith)) e.session_is e.plane_is e.memory_is e.answers)
    ∙ l.invariant.1

pub returns-in-Err-put-clause-answers : goal.returns-in-Err-put-clause-answers
returns-in-Err-put-clause-answers c = ap (λ (r : Row). answer_of r.ended) (put c)

pub returns-in-Err-put-clause-session_is : goal.returns-in-Err-put-clause-session_is
returns-in-Err-put-clause-session_is c = ap (λ (r : Row). session_of r.ended) (put c)

pub returns-in-Err-put-clause-plane_is : goal.returns-in-Err-put-clause-plane_is
returns-in-Err-put-clause-plane_is c = ap (λ (r : Row). r.plane) (put c)

pub returns-in-Err-put-clause-contexts_are : goal.returns-in-Err-put-clause-contexts_are
returns-in-Err-put-clause-contexts_are c = ap (λ (r : Row). r.contexts) (put c)

pub returns-in-Err-put-clause-cells_are : goal.returns-in-Err-put-clause-cells_are
returns-in-Err-put-clause-cells_are c = ap (λ (r : Row). r.cells) (put c)

pub returns-in-Err-put-clause-memory_is : goal.returns-in-Err-put-clause-memory_is
returns-in-Err-put-clause-memory_is c = ap (λ (r : Row). r.memory) (put c)

-- ---- neither is

pub loop-k-preserved : goal.loop-k-preserved
loop-k-preserved c =
    let s = c.args in
    let l = c.loop-k in
    let e = c.in_default.ensures in
    let v = get_or s.residuals.now l.k (pos 0) in (
      simp length-set l.invariant.0,
      sym (goes_on s.residuals.now s.references.now s.records.now s.each l.session l.plane l.contexts l.cells l.memory (length s.residuals.now) l.k c.loop-k-test.true _
          (part s.residuals.now s.references.now s.records.now s.each l.k) c.in-Ok.ensures.session_is c.in-Ok.ensures.cells_are c.in-Ok.ensures.answers
          (to_z w32 (of_z w32 v)) (held w32 v (omega arith)) e.session_is e.plane_is e.memory_is e.answers)
          ∙ l.invariant.1,
    )

-- ---- no pixel is left

ended : (c : goal.After-loop-k) → let s = c.args in let l = c.loop-k in
    row_of (all l.session) l.plane l.contexts l.cells l.memory
    ≡ pixels_from s.residuals.now s.references.now s.records.now s.each (length s.residuals.now) 0 s.session.now s.plane.now s.contexts.now s.cells.now s.memory.now
unfolding pixels_from
ended c =
    let none : length c.args.residuals.now - c.loop-k.k ≡ 0 = omega (arith, c.loop-k-test.false) in
    rw none at c.loop-k.invariant.1

pub returns-clause-answers : goal.returns-clause-answers
returns-clause-answers c = ap (λ (r : Row). answer_of r.ended) (ended c)

pub returns-clause-session_is : goal.returns-clause-session_is
returns-clause-session_is c = ap (λ (r : Row). session_of r.ended) (ended c)

pub returns-clause-plane_is : goal.returns-clause-plane_is
returns-clause-plane_is c = ap (λ (r : Row). r.plane) (ended c)

pub returns-clause-contexts_are : goal.returns-clause-contexts_are
returns-clause-contexts_are c = ap (λ (r : Row). r.contexts) (ended c)

pub returns-clause-cells_are : goal.returns-clause-cells_are
returns-clause-cells_are c = ap (λ (r : Row). r.cells) (ended c)

pub returns-clause-memory_is : goal.returns-clause-memory_is
returns-clause-memory_is c = ap (λ (r : Row). r.memory) (ended c)
