-- What the C functions answer and write, from the library's own definitions: 0 and the words, or a refusal's number and nothing.
use Rattle.std.specs.Prelude.{Bool, List, [], ◌∷◌, ◌≡◌, ℕ, ltb, ℤ, pos, neg_ℤ, length, get_or, drop, Result, Ok, Err}
use Rattle.colour.specs.Restore.{outcome, after, first, second, third}
use Rattle.integer.specs.Order.{if}
use Rattle.told.specs.Told.{data_of}
use Rattle.refusal.specs.Paper.{Outcome, gives, refuses, one_value}
use Rattle.predict.specs.Neighbours.{shortcut}
use Rattle.predict.specs.Predictors.{numbered, guess}
use Rattle.predict.specs.declared.neighbours.PredictionData.{PredictionData}
use Rattle.predict.specs.declared.predictors.NoSuchPredictor.{NoSuchPredictor}
use Rattle.predict.specs.declared.predictors.Predictor.{Predictor}

-- the answer, or minus the refusal's number
abbrev pub as_number : Outcome ℕ → ℤ
as_number (gives n) = pos n
as_number (refuses number details) = neg_ℤ (pos number)

-- ---- seven words

abbrev pub put_status : List ℤ → ℕ
put_status words = if (ltb (length words) 7) 8 0

abbrev pub put_seven : PredictionData → List ℤ → List ℤ
put_seven d words =
    if (ltb (length words) 7) words
    (d.left ∷ d.top ∷ d.toptop ∷ d.topleft ∷ d.topright ∷ d.leftleft ∷ d.toprightright ∷ drop 7 words)

abbrev pub seven_status : Outcome PredictionData → List ℤ → ℕ
seven_status (gives d) words = put_status words
seven_status (refuses number details) words = number

abbrev pub seven_after : Outcome PredictionData → List ℤ → List ℤ
seven_after (gives d) words = put_seven d words
seven_after (refuses number details) words = words

pub record PutsSeven (outcome : Outcome PredictionData) (words : List ℤ) (r : ℕ) (end : List ℤ) : Type 0 where
  pub answers : r ≡ seven_status outcome words
  pub holds : end ≡ seven_after outcome words

-- fewer than seven words of data are 8
abbrev pub shifted : List ℤ → List ℤ → List ℤ → ℕ → ℤ → Bool → Bool → Outcome PredictionData
shifted old top toptop x cur needs_top needs_toptop =
    if (ltb (length old) 7) (refuses 8 (pos 7 ∷ [])) (shortcut (data_of old) top toptop x cur needs_top needs_toptop)

pub record Shifts (old top toptop : List ℤ) (x : ℕ) (cur : ℤ) (needs_top needs_toptop : Bool) (words : List ℤ) (r : ℕ) (end : List ℤ) : Type 0 where
  pub answers : r ≡ seven_status (shifted old top toptop x cur needs_top needs_toptop) words
  pub holds : end ≡ seven_after (shifted old top toptop x cur needs_top needs_toptop) words

-- ---- one guess

abbrev pub guess_status : Result Predictor NoSuchPredictor → List ℤ → List ℤ → ℕ
guess_status (Err none) old words = 3
guess_status (Ok p) old words = if (ltb (length old) 7) 8 (if (ltb (length words) 1) 8 0)

abbrev pub guess_after : Result Predictor NoSuchPredictor → List ℤ → ℤ → List ℤ → List ℤ
guess_after (Err none) old wp words = words
guess_after (Ok p) old wp words =
    if (ltb (length old) 7) words (if (ltb (length words) 1) words (guess p (data_of old) wp ∷ drop 1 words))

pub record Guesses (p : ℕ) (old : List ℤ) (wp : ℤ) (words : List ℤ) (r : ℕ) (end : List ℤ) : Type 0 where
  pub answers : r ≡ guess_status (numbered p) old words
  pub holds : end ≡ guess_after (numbered p) old wp words

-- ---- a step of colour restore

abbrev pub done_or : Outcome Unit → ℕ
done_or (gives done) = 0
done_or (refuses number details) = number

pub record Steps (operation order : ℕ) (a b c : List ℤ) (r : ℕ) (a' b' c' : List ℤ) : Type 0 where
  pub answers : r ≡ done_or (outcome operation order a b c)
  pub holds_a : a' ≡ after first operation order a b c (outcome operation order a b c) a
  pub holds_b : b' ≡ after second operation order a b c (outcome operation order a b c) b
  pub holds_c : c' ≡ after third operation order a b c (outcome operation order a b c) c

-- ---- determinacy

pub puts_seven_determined : {o : Outcome PredictionData} {w : List ℤ} {r s : ℕ} {x y : List ℤ} → PutsSeven o w r x → PutsSeven o w s y → (r ≡ s) × (x ≡ y)
puts_seven_determined p q = (one_value p.answers q.answers, one_value p.holds q.holds)

pub shifts_determined : (old top toptop : List ℤ) (x : ℕ) (cur : ℤ) (needs_top needs_toptop : Bool) (w : List ℤ) {r s : ℕ} {u v : List ℤ}
    → Shifts old top toptop x cur needs_top needs_toptop w r u → Shifts old top toptop x cur needs_top needs_toptop w s v → (r ≡ s) × (u ≡ v)
shifts_determined old top toptop x cur needs_top needs_toptop w p q = (one_value p.answers q.answers, one_value p.holds q.holds)

pub guesses_determined : (n : ℕ) (old : List ℤ) (wp : ℤ) (w : List ℤ) {r s : ℕ} {u v : List ℤ} → Guesses n old wp w r u → Guesses n old wp w s v → (r ≡ s) × (u ≡ v)
guesses_determined n old wp w p q = (one_value p.answers q.answers, one_value p.holds q.holds)

pub steps_determined : (operation order : ℕ) (a b c : List ℤ) {r s : ℕ} {a' b' c' a'' b'' c'' : List ℤ}
    → Steps operation order a b c r a' b' c' → Steps operation order a b c s a'' b'' c'' → (r ≡ s) × (a' ≡ a'') × (b' ≡ b'') × (c' ≡ c'')
steps_determined operation order a b c p q = (
  one_value p.answers q.answers,
  one_value p.holds_a q.holds_a,
  one_value p.holds_b q.holds_b,
  one_value p.holds_c q.holds_c,
)
