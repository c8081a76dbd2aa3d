-- Module 3 of document 01: the fourteen predictors by number, and the guess of each.
use Rattle.std.specs.Prelude.{List, [], ◌∷◌, map, ℕ, ℤ, pos, ◌+ℤ◌, ◌-ℤ◌, ◌*ℤ◌, get_or, Result, Ok, Err}
use Rattle.std.specs.Int.Signed.{lt_z, quot_z}
use Rattle.integer.specs.Order.{if, smaller, larger, magnitude}
use Rattle.predict.specs.declared.neighbours.PredictionData.{PredictionData}
use Rattle.predict.specs.declared.predictors.NoSuchPredictor.{NoSuchPredictor}
use Rattle.predict.specs.declared.predictors.Predictor.{Predictor}
use Rattle.predict.specs.declared.predictors.Predictor.TheVariants.{
  Zero,
  West,
  North,
  AverageWestAndNorth,
  Select,
  Gradient,
  Weighted,
  NorthEast,
  NorthWest,
  WestWest,
  AverageWestAndNorthWest,
  AverageNorthAndNorthWest,
  AverageNorthAndNorthEast,
  AverageAll,
}

-- in the order of their numbers, 0 .. 13
abbrev pub predictors : List Predictor
predictors =
    Zero ∷ West ∷ North ∷ AverageWestAndNorth ∷ Select ∷ Gradient ∷ Weighted ∷ NorthEast ∷ NorthWest ∷ WestWest
    ∷ AverageWestAndNorthWest ∷ AverageNorthAndNorthWest ∷ AverageNorthAndNorthEast ∷ AverageAll ∷ []

abbrev pub no_such : ℕ → NoSuchPredictor
no_such n = record { 0 = n }

-- the predictor of a number; from 14 on there is none
abbrev pub numbered : ℕ → Result Predictor NoSuchPredictor
numbered n = get_or (map Ok predictors) n (Err (no_such n))

-- left only if |top - topleft| < |left - topleft|, so ties give top
abbrev pub selected : ℤ → ℤ → ℤ → ℤ
selected left top topleft = if (lt_z (magnitude (top -ℤ topleft)) (magnitude (left -ℤ topleft))) left top

-- left + top - topleft, replaced by the larger of left and top if topleft is below both, by the smaller if above both
abbrev pub gradient : ℤ → ℤ → ℤ → ℤ
gradient left top topleft =
    if (lt_z topleft (smaller left top)) (larger left top)
    (if (lt_z (larger left top) topleft) (smaller left top) (left +ℤ top -ℤ topleft))

-- averages divide toward zero
abbrev pub half : ℤ → ℤ → ℤ
half a b = quot_z (a +ℤ b) (pos 2)

abbrev pub average_all : PredictionData → ℤ
average_all d =
    quot_z
    (pos 6 *ℤ d.top -ℤ pos 2 *ℤ d.toptop +ℤ pos 7 *ℤ d.left +ℤ d.leftleft +ℤ d.toprightright +ℤ pos 3 *ℤ d.topright +ℤ pos 8)
    (pos 16)

-- the guess, given the weighted predictor's
abbrev pub guess : Predictor → PredictionData → ℤ → ℤ
guess Zero d wp = pos 0
guess West d wp = d.left
guess North d wp = d.top
guess AverageWestAndNorth d wp = half d.top d.left
guess Select d wp = selected d.left d.top d.topleft
guess Gradient d wp = gradient d.left d.top d.topleft
guess Weighted d wp = wp
guess NorthEast d wp = d.topright
guess NorthWest d wp = d.topleft
guess WestWest d wp = d.leftleft
guess AverageWestAndNorthWest d wp = half d.left d.topleft
guess AverageNorthAndNorthWest d wp = half d.top d.topleft
guess AverageNorthAndNorthEast d wp = half d.top d.topright
guess AverageAll d wp = average_all d
