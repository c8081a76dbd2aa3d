-- Keeping left + top - topleft between left and top is replacing it where topleft is below or above both.
use lib.IntN.{ℤ, ◌+ℤ◌, ◌-ℤ◌}
use lib.Signed.{lt_z}
use mathlib.Core.Bool.{Bool, true, false}
use mathlib.Core.Path.{◌≡◌, refl}
use native.Mathlib.Omega.{arith}
use Prim.Native.Nat.{◌+◌, ◌≤◌}
use Rattle.integer.proofs.Parts.{up, down, of_plus, of_minus, less, not_less, is_less, is_not_less, same}
use Rattle.integer.specs.Order.{if, smaller, larger}
use Rattle.predict.specs.Predictors.{gradient}

-- lo is at most hi, and g is lo + hi - c
module _ (lo hi c g : ℤ) (ordered : up lo + down hi ≤ up hi + down lo) (is : up g + (down lo + down hi + up c) ≡ up lo + up hi + down c + down g) where
  top : (t : Bool) → lt_z lo hi ≡ t → if t hi lo ≡ hi
  top true e = refl
  top false e = same lo hi (omega (arith, not_less lo hi e))

  bottom : (t : Bool) → lt_z lo g ≡ t → up lo + down g ≤ up g + down lo → if t g lo ≡ g
  bottom true e h = refl
  bottom false e h = same lo g (omega (arith, not_less lo g e))

  between : (p q : Bool) → lt_z c lo ≡ p → lt_z hi c ≡ q → larger lo (smaller hi g) ≡ if p hi (if q lo g)
  between true q ep eq =
      let far : lt_z hi g ≡ true = is_less hi g (omega (arith, less c lo ep)) in
      simp far (top (lt_z lo hi) refl)
  between false true ep eq =
      let near : lt_z hi g ≡ false = is_not_less hi g (omega (arith, less hi c eq)) in
      let low : lt_z lo g ≡ false = is_not_less lo g (omega (arith, less hi c eq)) in
      simp (near, low)
  between false false ep eq =
      let near : lt_z hi g ≡ false = is_not_less hi g (omega (arith, not_less c lo ep)) in
      simp near (bottom (lt_z lo g) refl (omega (arith, not_less hi c eq)))

pub kept_between : (l t c : ℤ) → larger (smaller l t) (smaller (larger l t) (l +ℤ t -ℤ c)) ≡ gradient l t c
kept_between l t c = by (lt_z l t) refl
  where
    by : (a : Bool) → lt_z l t ≡ a
        → larger (if a l t) (smaller (if a t l) (l +ℤ t -ℤ c)) ≡ if (lt_z c (if a l t)) (if a t l) (if (lt_z (if a t l) c) (if a l t) (l +ℤ t -ℤ c))
    by true e =
        between l t c (l +ℤ t -ℤ c) (omega (arith, less l t e)) (omega (arith, of_plus l t, of_minus (l +ℤ t) c)) (lt_z c l) (lt_z t c) refl refl
    by false e =
        between t l c (l +ℤ t -ℤ c) (omega (arith, not_less l t e)) (omega (arith, of_plus l t, of_minus (l +ℤ t) c)) (lt_z c t) (lt_z l c) refl refl
