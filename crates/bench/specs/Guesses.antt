-- A row of guesses: what `matuviso_guess_row` answers and writes, from the library's own definitions.
use Rattle.std.specs.Prelude.{Bool, true, false, List, ◌≡◌, ℕ, ltb, ℤ, pos, length, Result, Ok, Err}
use Rattle.integer.specs.Fill.{filled}
use Rattle.integer.specs.Order.{if}
use Rattle.refusal.specs.Paper.{Outcome, gives, refuses, one_value}
use Rattle.predict.specs.Neighbours.{in_domain, neighbours}
use Rattle.predict.specs.Predictors.{numbered, guess}
use Rattle.predict.specs.declared.neighbours.PredictionData.{PredictionData}
use Rattle.predict.specs.declared.predictors.NoSuchPredictor.{NoSuchPredictor}
use Rattle.predict.specs.declared.predictors.Predictor.{Predictor}

-- the guess at a column, 0 where its neighbours are refused
abbrev pub guess_of : Predictor → ℤ → Outcome PredictionData → ℤ
guess_of p wp (gives d) = guess p d wp
guess_of p wp (refuses number details) = pos 0

abbrev pub guess_at : List ℤ → List ℤ → List ℤ → ℕ → Predictor → ℤ → ℕ → ℤ
guess_at row top toptop y p wp x = guess_of p wp (neighbours row top toptop x y)

-- 11 where the first column is refused, then 3 where no predictor has the number, then 8 where guesses are fewer than columns
abbrev pub status : Bool → Result Predictor NoSuchPredictor → ℕ → ℕ → ℕ
status false named width room = 11
status true (Err none) width room = 3
status true (Ok p) width room = if (ltb room width) 8 0

abbrev pub after : Bool → Result Predictor NoSuchPredictor → (Predictor → ℕ → ℤ) → ℕ → List ℤ → List ℤ
after false named f width words = words
after true (Err none) f width words = words
after true (Ok p) f width words = if (ltb (length words) width) words (filled (f p) width words)

pub record GuessesRow (row top toptop : List ℤ) (y p : ℕ) (wp : ℤ) (words : List ℤ) (r : ℕ) (end : List ℤ) : Type 0 where
  pub answers : r ≡ status (in_domain row top toptop 0 y) (numbered p) (length row) (length words)
  pub holds :
      end
      ≡ after (in_domain row top toptop 0 y) (numbered p) (λ q. guess_at row top toptop y q wp) (length row) words

pub guesses_row_determined : (row top toptop : List ℤ) (y p : ℕ) (wp : ℤ) (words : List ℤ) {r s : ℕ} {u v : List ℤ}
    → GuessesRow row top toptop y p wp words r u → GuessesRow row top toptop y p wp words s v → (r ≡ s) × (u ≡ v)
guesses_row_determined row top toptop y p wp words a b = (one_value a.answers b.answers, one_value a.holds b.holds)
