-- The library's guesses are the standard's predictions, each by its number.
use lib.IntN.{ℤ, pos, ◌+ℤ◌, ◌-ℤ◌, +ℤ_comm}
use lib.ListN.{get_or}
use lib.Signed.{quot_z}
use mathlib.Core.Path.{◌≡◌, refl, sym, ap}
use native.Mathlib.Omega.{arith}
use Prim.Native.Nat.{ℕ}
use Rattle.integer.proofs.Parts.{of_plus, of_minus, same}
use Rattle.predict.specs.declared.neighbours.PredictionData.{PredictionData}
use Rattle.std.proofs.Common.{Ok}
use Rattle.predict.specs.declared.predictors.Predictor.{Predictor}
use Rattle.predict.specs.declared.predictors.Predictor.TheVariants.{
  Zero,
  West,
  North,
  AverageWestAndNorth,
  Select,
  Gradient,
  Weighted,
  NorthEast,
  NorthWest,
  WestWest,
  AverageWestAndNorthWest,
  AverageNorthAndNorthWest,
  AverageNorthAndNorthEast,
  AverageAll,
}
use Rattle.predict.specs.Predictors.{numbered, guess, selected}
use Rattle.predict.specs.Standard.{predictions, select}
use Rattle.predict.proofs.Gradient.{kept_between}

-- each predictor's number
abbrev pub number_of : Predictor → ℕ
number_of Zero = 0
number_of West = 1
number_of North = 2
number_of AverageWestAndNorth = 3
number_of Select = 4
number_of Gradient = 5
number_of Weighted = 6
number_of NorthEast = 7
number_of NorthWest = 8
number_of WestWest = 9
number_of AverageWestAndNorthWest = 10
number_of AverageNorthAndNorthWest = 11
number_of AverageNorthAndNorthEast = 12
number_of AverageAll = 13

-- the distance of W + N - NW from W is that of N from NW, and the other way round
from_first : (w n c : ℤ) → w +ℤ n -ℤ c -ℤ w ≡ n -ℤ c
from_first w n c =
    same (w +ℤ n -ℤ c -ℤ w) (n -ℤ c)
    (omega (arith, of_plus w n, of_minus (w +ℤ n) c, of_minus (w +ℤ n -ℤ c) w, of_minus n c))

from_second : (w n c : ℤ) → w +ℤ n -ℤ c -ℤ n ≡ w -ℤ c
from_second w n c =
    same (w +ℤ n -ℤ c -ℤ n) (w -ℤ c)
    (omega (arith, of_plus w n, of_minus (w +ℤ n) c, of_minus (w +ℤ n -ℤ c) n, of_minus w c))

select_is : (w n c : ℤ) → selected w n c ≡ select w n c
select_is w n c = simp (from_first w n c, from_second w n c)

-- The guess is the standard's prediction.
pub guess_is_standard : (p : Predictor) (d : PredictionData) (wp : ℤ)
    → guess p d wp
    ≡ get_or (predictions d.left d.top d.topleft d.topright d.toptop d.leftleft d.toprightright wp) (number_of p) (pos 0)
guess_is_standard Zero d wp = refl
guess_is_standard West d wp = refl
guess_is_standard North d wp = refl
guess_is_standard AverageWestAndNorth d wp = ap (λ (s : ℤ). quot_z s (pos 2)) (+ℤ_comm d.top d.left)
guess_is_standard Select d wp = select_is d.left d.top d.topleft
guess_is_standard Gradient d wp = sym (kept_between d.left d.top d.topleft)
guess_is_standard Weighted d wp = refl
guess_is_standard NorthEast d wp = refl
guess_is_standard NorthWest d wp = refl
guess_is_standard WestWest d wp = refl
guess_is_standard AverageWestAndNorthWest d wp = refl
guess_is_standard AverageNorthAndNorthWest d wp = refl
guess_is_standard AverageNorthAndNorthEast d wp = refl
guess_is_standard AverageAll d wp = refl

-- The numbers are those by which predictors are read.
pub numbered_is : (p : Predictor) → numbered (number_of p) ≡ Ok p
numbered_is Zero = refl
numbered_is West = refl
numbered_is North = refl
numbered_is AverageWestAndNorth = refl
numbered_is Select = refl
numbered_is Gradient = refl
numbered_is Weighted = refl
numbered_is NorthEast = refl
numbered_is NorthWest = refl
numbered_is WestWest = refl
numbered_is AverageWestAndNorthWest = refl
numbered_is AverageNorthAndNorthWest = refl
numbered_is AverageNorthAndNorthEast = refl
numbered_is AverageAll = refl
