-- The ways in which validation ends, each with its answer and its work area.
use borrow.Author.Tests.{eq-eqb, ne_eqb, lt-ltb, le-ltb}
use lib.Dec.{ltb, eqb}
use lib.IntN.{ℤ, pos}
use lib.ListN.{length, drop}
use lib.Seq.{take_at, drop_at, drop-drop}
use mathlib.Core.Bool.{◌&&◌, not}
use mathlib.Core.List.{List, [], ◌∷◌, ◌++◌}
use mathlib.Core.Path.{◌≡◌, refl, sym, ap, ◌∙◌}
use Prim.Native.Nat.{ℕ, zero, suc, ◌+◌, ◌≤◌, ◌<◌}
use Rattle.integer.proofs.Fill.{tabulate_length}
use Rattle.integer.specs.Fill.{tabulate, filled}
use Rattle.integer.specs.Order.{if}
use Rattle.nodes.specs.Nodes.{then}
use Rattle.refusal.specs.Paper.{Outcome, gives, refuses, paper, said}
use Rattle.refusal.specs.declared.Refusal.{Refusal}
use Rattle.std.proofs.Common.{Result, Ok, Err, replicate, add-one}
use Rattle.std.proofs.lemmas.List.{replicate_more}
use Rattle.refusal.specs.declared.Refusal.TheVariants.{TooSmall}
use Rattle.validation.specs.Frames.{ranges}
use Rattle.validation.specs.Shape.{shape}
use Rattle.validation.specs.Validation.{passes, validation, area_after}
use Rattle.validation.specs.Visit.{visit, levels, all_ranges, widest}

module _ (words work : List ℤ) where
  abbrev rest : Outcome Unit
  rest = if (eqb (length words) 0) (gives tt) (if (ltb (length work) 10762) (refuses 8 (pos 10762 ∷ [])) (visit words levels 0 all_ranges))

  -- by the outcome of the shape check
  abbrev pub answer : Outcome Unit → Outcome Unit
  answer shaped = then shaped rest

  abbrev left : Outcome Unit → List ℤ
  left shaped = if (passes shaped && (not (eqb (length words) 0) && not (ltb (length work) 10762))) (filled (λ i. pos 0) 10762 work) work

  -- the answer, and the words that are left
  abbrev pub Ends : Result Unit Refusal → List ℤ → Type 0
  Ends r work' = (said r ≡ validation words (length work)) × (work' ≡ area_after words work)

  pub ill_shaped : (r : Result Unit Refusal) (refusal : Refusal) → said r ≡ paper refusal → paper refusal ≡ shape words → Ends r work
  ill_shaped r refusal is e = (is ∙ ap answer e, ap left e)

  module _ (shaped : shape words ≡ gives tt) where
    pub empty : length words ≡ 0 → Ends (Ok tt) work
    empty e =
        let none = eq-eqb _ _ e in
        let nothing : gives tt ≡ rest = simp none in
        let untouched : work ≡ left (gives tt) = simp none in
        (nothing ∙ ap answer (sym shaped), untouched ∙ ap left (sym shaped))

    module _ (some : length words ≡ 0 → ⊥) where
      pub too_small : length work < 10762 → Ends (Err (TooSmall 10762)) work
      too_small h =
          let there = ne_eqb _ _ some in
          let small = lt-ltb _ _ h in
          let refused : paper (TooSmall 10762) ≡ rest = simp (there, small) in
          let untouched : work ≡ left (gives tt) = simp (there, small) in
          (refused ∙ ap answer (sym shaped), untouched ∙ ap left (sym shaped))

      pub visited : (r : Result Unit Refusal) (work' : List ℤ) → 10762 ≤ length work → said r ≡ visit words levels 0 all_ranges → work' ≡ filled (λ i. pos 0) 10762 work → Ends r work'
      visited r work' h answered cleared =
          let there = ne_eqb _ _ some in
          let enough = le-ltb _ _ h in
          let found : visit words levels 0 all_ranges ≡ rest = simp (there, enough) in
          let zeroed : filled (λ i. pos 0) 10762 work ≡ left (gives tt) = simp (there, enough) in
          (answered ∙ found ∙ ap answer (sym shaped), cleared ∙ zeroed ∙ ap left (sym shaped))

-- ---- the work area, opened and cleared

pub opened : (work : List ℤ) → ranges (filled widest 512 work) ≡ all_ranges
unfolding all_ranges
opened work = take_at (tabulate widest 512) (drop 512 work) 512 (tabulate_length widest 512)

-- what lies beyond the words that a loop fills
pub beyond_filled : (f : ℕ → ℤ) (k m : ℕ) (work : List ℤ) → drop (k + m) (filled f k work) ≡ drop (k + m) work
beyond_filled f k m work =
    sym (drop-drop m k (filled f k work)) ∙ ap (drop m) (drop_at (tabulate f k) (drop k work) k (tabulate_length f k)) ∙ drop-drop m k work

pub filled_alike : (f : ℕ → ℤ) (n : ℕ) (a b : List ℤ) → drop n a ≡ drop n b → filled f n a ≡ filled f n b
filled_alike f n a b e = ap (λ (l : List ℤ). tabulate f n ++ l) e

-- zeros, as a table
pub zeroes : (n : ℕ) → tabulate (λ i. pos 0) n ≡ replicate n (pos 0)
unfolding tabulate
zeroes zero = refl
zeroes (suc n) = rw (zeroes n) (rw (add-one n) at (replicate_more n (pos 0)))
