-- The guesses of many pixels: what the C functions answer and write, from the library's own definitions of the two walks.
use Rattle.std.specs.Prelude.{Bool, ◌||◌, List, ◌≡◌, ℕ, ◌*◌, ◌/◌, ltb, ℤ, pos, length, drop, take}
use Rattle.flat.specs.FlatWalk.{flat_of}
use Rattle.integer.specs.Fill.{filled}
use Rattle.integer.specs.Order.{if}
use Rattle.refusal.specs.Paper.{Outcome, gives, refuses, one_value}
use Rattle.told.specs.Told.{data_of}
use Rattle.walk.specs.Walk.{walk_of}
use Rattle.walk.specs.declared.PredictionResult.{PredictionResult}

-- 0 where the walk is refused
abbrev pub guess_of : Outcome PredictionResult → ℤ
guess_of (gives result) = result.guess
guess_of (refuses number details) = pos 0

-- sixteen cells and seven neighbours a pixel
abbrev pub cells_of : List ℤ → ℕ → List ℤ
cells_of cells k = take 16 (drop (16 * k) cells)

unfoldable pub direct_at : List ℤ → List ℤ → List ℤ → ℤ → ℕ → ℤ
direct_at words cells d wp k = guess_of (walk_of words (cells_of cells k) (data_of (drop (7 * k) d)) wp)

unfoldable pub flat_at : List ℤ → List ℤ → List ℤ → ℤ → ℕ → ℤ
flat_at words cells d wp k = guess_of (flat_of words (cells_of cells k) (data_of (drop (7 * k) d)) wp)

-- as many pixels as there is room for guesses; 8 where cells or neighbours are too few
abbrev pub too_few : ℕ → ℕ → ℕ → Bool
too_few cells d pixels = ltb (cells / 16) pixels || ltb (d / 7) pixels

pub record GuessesPixels (at : ℕ → ℤ) (cells d : ℕ) (guesses : List ℤ) (r : ℕ) (guesses' : List ℤ) : Type 0 where
  pub answers : r ≡ if (too_few cells d (length guesses)) 8 0
  pub holds : guesses' ≡ if (too_few cells d (length guesses)) guesses (filled at (length guesses) guesses)

pub pixels_determined : (at : ℕ → ℤ) (cells d : ℕ) (guesses : List ℤ) {r s : ℕ} {a b : List ℤ}
    → GuessesPixels at cells d guesses r a → GuessesPixels at cells d guesses s b → (r ≡ s) × (a ≡ b)
pixels_determined at cells d guesses p q = (one_value p.answers q.answers, one_value p.holds q.holds)
