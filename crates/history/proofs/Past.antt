-- The errors so far: every true error is a 32-bit word.
use lib.Dec.{ltb}
use lib.IntN.{ℤ, ◌-ℤ◌}
use lib.ListN.{get_or}
use lib.Signed.{mag}
use mathlib.Core.Bool.{Bool, true, false}
use mathlib.Core.List.{List, [], ◌∷◌, ◌++◌}
use mathlib.Core.Path.{◌≡◌, refl}
use Prim.Native.Nat.{ℕ, zero, suc, ◌+◌, ◌-◌, ◌*◌, ◌^◌, ◌<◌}
use Rattle.blend.specs.Blend.{errors_of, eighths}
use Rattle.blend.specs.declared.Found.{Found}
use Rattle.blend.specs.declared.PixelErrors.{PixelErrors}
use Rattle.blend.specs.declared.WeightedHeader.{WeightedHeader}
use Rattle.integer.proofs.Wrap.{wrap_fits, wrap_below, wrap_in_range}
use Rattle.integer.specs.Order.{if}
use Rattle.integer.specs.Word.{wrap}
use Rattle.predict.specs.declared.neighbours.PredictionData.{PredictionData}
use Rattle.history.specs.Standard.{none, above, true_errors, predicted, history}

pub record IsWord (e : PixelErrors) : Type 0 where
  pub wrapped : wrap e.error ≡ e.error

chosen : {a b : PixelErrors} (t : Bool) → IsWord a → IsWord b → IsWord (if t a b)
chosen true p q = p
chosen false p q = q

small : {e : PixelErrors} → IsWord e → mag e.error < 2 ^ 31
small {e} is = rw is.wrapped at (wrap_below e.error).size

-- of none, of a pixel, and so of all
pub none_word : IsWord none
none_word = record { wrapped = refl }

pub left_word : (f : Found) (v : ℤ) → IsWord (errors_of f v)
unfolding errors_of
left_word f v = record { wrapped = let z = f.pred -ℤ eighths v in wrap_in_range (wrap z) (wrap_fits z) }

pub one_more : (past : List PixelErrors) (e : PixelErrors) → ((j : ℕ) → IsWord (get_or past j none)) → IsWord e → (j : ℕ) → IsWord (get_or (past ++ (e ∷ [])) j none)
one_more [] e words is zero = is
one_more [] e words is (suc j) = none_word
one_more (a ∷ past) e words is zero = words zero
one_more (a ∷ past) e words is (suc j) = one_more past e (λ i. words (suc i)) is j

module _ (h : WeightedHeader) (width : ℕ) (neighbours : ℕ → PredictionData) (value : ℕ → ℤ) where
  pub history_words : (k j : ℕ) → IsWord (get_or (history h width neighbours value k) j none)
  unfolding history
  history_words zero j = none_word
  history_words (suc k) j =
      one_more (history h width neighbours value k) (errors_of (predicted h width neighbours value k).found (value k)) (history_words k)
      (left_word (predicted h width neighbours value k).found (value k)) j

module _ (width : ℕ) (past : List PixelErrors) (x y : ℕ) (words : (j : ℕ) → IsWord (get_or past j none)) where
  pub above_word : (j : ℕ) → IsWord (above width past x y j)
  above_word j = chosen (ltb 0 y) (words ((y - 1) * width + j)) none_word

  pub errors_small : (mag (true_errors width past x y).w < 2 ^ 31)
      × (mag (true_errors width past x y).n < 2 ^ 31)
      × (mag (true_errors width past x y).nw < 2 ^ 31)
      × (mag (true_errors width past x y).ne < 2 ^ 31)
  unfolding true_errors
  errors_small = (
    small (chosen (ltb 0 x) (words (y * width + (x - 1))) none_word),
    small (above_word x),
    small (chosen (ltb 0 x) (above_word (x - 1)) (above_word x)),
    small (chosen (ltb (x + 1) width) (above_word (x + 1)) (above_word x)),
  )
