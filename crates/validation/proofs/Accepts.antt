-- What users rely on of `validate_tree`, from its promise alone.
use borrow.Author.Tests.{ne_eqb, le-ltb}
use lib.IntN.{ℤ}
use lib.ListN.{length}
use mathlib.Core.List.{List}
use mathlib.Core.Path.{◌≡◌, refl, sym, ap, ◌∙◌}
use native.Mathlib.Omega.{arith}
use Prim.Native.Nat.{◌≤◌, ◌<◌}
use Rattle.refusal.specs.Paper.{gives, said}
use Rattle.refusal.specs.declared.Refusal.{Refusal}
use Rattle.std.proofs.Common.{Result, Ok}
use Rattle.validation.specs.Reach.{EachLeafReached}
use Rattle.validation.specs.Shape.{shape}
use Rattle.validation.specs.Validation.{validation}
use Rattle.validation.specs.Verdict.{verdict_determined}
use Rattle.validation.specs.Visit.{visit, levels, all_ranges}
use Rattle.validation.proofs.Answers.{answer}
use Rattle.validation.proofs.Demand3.{accepted_exactly}
use Rattle.validation.proofs.ToDo.{nodes, sound_list}

-- with a sound list and room enough, the answer is the visit's
visit_answers : (words work : List ℤ) → shape words ≡ gives tt → 0 < length words → 10762 ≤ length work → validation words (length work) ≡ visit words levels 0 all_ranges
visit_answers words work shaped some room =
    let there = ne_eqb (length words) 0 (λ e. omega (arith, e)) in
    let enough = le-ltb (length work) 10762 room in
    let found : answer words work (gives tt) ≡ visit words levels 0 all_ranges = simp (there, enough) in
    ap (answer words work) shaped ∙ found

-- Demand 3, first half: for a list of sound shape that is not empty, and a work area that is large enough, validation accepts exactly when
-- no leaf lies deeper than 2,048 and each leaf is reached by some choice of signed 32-bit values for the cells.
pub validation_accepts_exactly : (words work : List ℤ) {r : Result Unit Refusal} → said r ≡ validation words (length work)
    → shape words ≡ gives tt → 0 < length words → 10762 ≤ length work
    → (r ≡ Ok tt → EachLeafReached words (nodes words)) × (EachLeafReached words (nodes words) → r ≡ Ok tt)
validation_accepts_exactly words work {r} answers shaped some room =
    let sound = sound_list words (shaped, some) in
    let exactly = accepted_exactly words (nodes words) sound.shaped sound.some in
    let is = answers ∙ visit_answers words work shaped some room in (
      λ accepts. exactly.0 (sym is ∙ ap said accepts),
      λ each. verdict_determined r (Ok tt) (is ∙ exactly.1 each) refl,
    )

-- what the work area held before does not matter, only how long it is
pub contents_do_not_matter : (words a b : List ℤ) {r s : Result Unit Refusal} → said r ≡ validation words (length a) → said s ≡ validation words (length b) → length a ≡ length b → r ≡ s
contents_do_not_matter words a b {r} {s} p q same = verdict_determined r s p (q ∙ ap (validation words) (sym same))
