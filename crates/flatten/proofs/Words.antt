-- The words of a record as they are stored.
use denote.Enum.Declared.{tag_of}
use lib.IntN.{ℤ, pos}
use lib.ListN.{set}
use lib.Seq.{sets}
use mathlib.Core.List.{List, [], ◌∷◌}
use mathlib.Core.Path.{◌≡◌, refl}
use mir.Syntax.{w32}
use mir.Val.{to_z}
use native.Mathlib.Omega.{arith}
use Prim.Native.Nat.{ℕ, suc, ◌+◌}
use Rattle.flatten.specs.Records.{predictor_number}
use Rattle.predict.specs.contracts.predictors.Predictor.{the_type}
use Rattle.predict.specs.declared.predictors.Predictor.{Predictor}
use Rattle.predict.specs.declared.predictors.Predictor.TheVariants as predictor

pub six_words : (l : List ℤ) (at : ℕ) {a b c d e f a' b' c' d' e' f' : ℤ} → a' ≡ a → b' ≡ b → c' ≡ c → d' ≡ d → e' ≡ e → f' ≡ f
    → set (set (set (set (set (set l at a') (at + 1) b') (at + 2) c') (at + 3) d') (at + 4) e') (at + 5) f' ≡ sets l at (a ∷ b ∷ c ∷ d ∷ e ∷ f ∷ [])
six_words l at is_a is_b is_c is_d is_e is_f =
    let one : at + 1 ≡ suc at = omega arith in
    let two : at + 2 ≡ suc (suc at) = omega arith in
    let three : at + 3 ≡ suc (suc (suc at)) = omega arith in
    let four : at + 4 ≡ suc (suc (suc (suc at))) = omega arith in
    let five : at + 5 ≡ suc (suc (suc (suc (suc at)))) = omega arith in
    rw (is_a, is_b, is_c, is_d, is_e, is_f, one, two, three, four, five)

-- a predictor's variant, cast to a word, is its number
pub cast : (p : Predictor) → to_z w32 (tag_of the_type p) ≡ pos (predictor_number p)
cast predictor.Zero = refl
cast predictor.West = refl
cast predictor.North = refl
cast predictor.AverageWestAndNorth = refl
cast predictor.Select = refl
cast predictor.Gradient = refl
cast predictor.Weighted = refl
cast predictor.NorthEast = refl
cast predictor.NorthWest = refl
cast predictor.WestWest = refl
cast predictor.AverageWestAndNorthWest = refl
cast predictor.AverageNorthAndNorthWest = refl
cast predictor.AverageNorthAndNorthEast = refl
cast predictor.AverageAll = refl
