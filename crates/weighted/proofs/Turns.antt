-- What an ask and a put answer, from what the tests say, and what they leave.
use lib.Dec.{leb}
use lib.IntN.{ℤ}
use lib.ListN.{length}
use mathlib.Core.Bool.{Bool, true, false, ◌&&◌, not}
use mathlib.Core.List.{List}
use mathlib.Core.Path.{◌≡◌, refl, sym, ap, ◌∙◌}
use native.Mathlib.Omega.{arith}
use Prim.Native.Nat.{ℕ}
use Rattle.blend.specs.Blend.{in_range, prediction, predicted_of, errors_of, possible, leaves}
use Rattle.blend.specs.declared.Found.{Found}
use Rattle.arith.specs.declared.Four.{Four}
use Rattle.blend.specs.declared.PixelErrors.{PixelErrors}
use Rattle.blend.specs.declared.Prediction.{Prediction}
use Rattle.blend.specs.declared.TrueErrors.{TrueErrors}
use Rattle.blend.specs.declared.WeightedHeader.{WeightedHeader}
use Rattle.integer.specs.Order.{if}
use Rattle.predict.specs.declared.neighbours.PredictionData.{PredictionData}
use Rattle.refusal.specs.Paper.{Outcome, gives, refuses, paper}
use Rattle.refusal.specs.declared.Refusal.{Refusal}
use Rattle.weighted.specs.Memory.{needed, errors_read, sums_read}
use Rattle.weighted.specs.State.{answered, test, is_place, allowed, asks, predicted_at, predicts, onward, puts}
use Rattle.weighted.specs.declared.state.WeightedState.{WeightedState}
use Rattle.weighted.proofs.Allowed.{verdict, goes_on, refused_so}

-- ---- past the tests, what `blend` says is its answer and no refusal

module _ {A : Type 0} {t : Bool} (b : A) (o : Outcome A) (passed : t ≡ true) where
  is_given_lem : {a : A} → gives a ≡ if t (gives b) o → a ≡ b
  is_given_lem {a} e = let f : gives a ≡ gives b = rw passed at e in cc

  not_refused : {n : ℕ} {ds : List ℤ} → refuses n ds ≡ if t (gives b) o → ⊥
  not_refused {n} {ds} e =
      let f : refuses n ds ≡ gives b = rw passed at e in
      let z : ◌≡◌ {A = ℕ} 0 1 = cc in
      omega arith

module _ (h : WeightedHeader) (d : PredictionData) (e : TrueErrors) (sums : Four) (ranged : in_range h ≡ true) where
  pub prediction_is : {p : Prediction} → gives p ≡ prediction h d e sums → p ≡ predicted_of h d e sums
  prediction_is = is_given_lem (predicted_of h d e sums) _ ranged

  pub predicts_some : {n : ℕ} {ds : List ℤ} → refuses n ds ≡ prediction h d e sums → ⊥
  predicts_some = not_refused (predicted_of h d e sums) _ ranged

module _ (f : Found) (v : ℤ) (may : possible f ≡ true) where
  pub errors_are : {left : PixelErrors} → gives left ≡ leaves f v → left ≡ errors_of f v
  errors_are = is_given_lem (errors_of f v) _ may

  pub leaves_errors : {n : ℕ} {ds : List ℤ} → refuses n ds ≡ leaves f v → ⊥
  leaves_errors = not_refused (errors_of f v) _ may

-- ---- what is found

module _ (s : WeightedState) (m : List ℕ) (d : PredictionData) where
  pub predict_refused : (r : Refusal) → paper r ≡ verdict s (not s.asked) (length m) → paper r ≡ predicts s m d
  predict_refused r says = sym (refused_so s (not s.asked) (length m) (gives (predicted_at s m d)) (sym says))

  pub predicted : gives tt ≡ verdict s (not s.asked) (length m) → in_range s.header ≡ true
      → prediction s.header d (errors_read m s.width s.x s.y) (sums_read m s.width s.x s.y) ≡ predicts s m d
  predicted says ranged =
      let past : prediction s.header d (errors_read m s.width s.x s.y) (sums_read m s.width s.x s.y) ≡ gives (predicted_at s m d) = rw ranged in
      past ∙ sym (goes_on s (not s.asked) (length m) (gives (predicted_at s m d)) (sym says))

-- ---- ask: what is found, remembered

abbrev mapped : {A B : Type 0} → (A → B) → Outcome A → Outcome B
mapped f (gives a) = gives (f a)
mapped f (refuses number details) = refuses number details

past_tests : {A B : Type 0} (f : A → B) (a b c d : Bool) (k : ℕ) (x : A)
    → test a 12 0 (test b 11 0 (test c 13 0 (test d 8 k (gives (f x))))) ≡ mapped f (test a 12 0 (test b 11 0 (test c 13 0 (test d 8 k (gives x)))))
past_tests f false b c d k x = refl
past_tests f true false c d k x = refl
past_tests f true true false d k x = refl
past_tests f true true true false k x = refl
past_tests f true true true true k x = refl

module _ (s : WeightedState) (m : List ℕ) (d : PredictionData) where
  asks_is : asks s m d ≡ mapped (answered s) (predicts s m d)
  unfolding allowed
  asks_is = past_tests (answered s) (in_range s.header) (is_place s) (not s.asked) (leb (needed s.width) (length m)) (needed s.width) (predicted_at s m d)

  pub ask_refused : (r : Refusal) → paper r ≡ predicts s m d → asks s m d ≡ paper r
  ask_refused r says = asks_is ∙ ap (mapped (answered s)) (sym says)

  pub ask_given : (p : Prediction) → gives p ≡ predicts s m d → asks s m d ≡ gives (answered s p)
  ask_given p says = asks_is ∙ ap (mapped (answered s)) (sym says)

-- ---- put

module _ (s : WeightedState) (m : List ℕ) {turn : Bool} (due : turn ≡ (s.asked && possible s.found)) where
  pub put_refused : (r : Refusal) → paper r ≡ verdict s turn (length m) → puts s m ≡ paper r
  put_refused r says = refused_so s (s.asked && possible s.found) (length m) (gives (onward s)) (ap (λ (t : Bool). verdict s t (length m)) (sym due) ∙ sym says)

  pub put_passed : gives tt ≡ verdict s turn (length m) → verdict s (s.asked && possible s.found) (length m) ≡ gives tt
  put_passed says = ap (λ (t : Bool). verdict s t (length m)) (sym due) ∙ sym says

  pub put_given : gives tt ≡ verdict s turn (length m) → puts s m ≡ gives (onward s)
  put_given says = goes_on s (s.asked && possible s.found) (length m) (gives (onward s)) (put_passed says)
