-- The laws of `wrap64`: it changes nothing in range, and forgets 2^64.
use Prim.Native.Nat.{◌+◌, ◌≤◌, ◌<◌}
use native.Mathlib.Omega.{arith}
use mathlib.Core.Bool.{true, false}
use mathlib.Core.Path.{◌≡◌, ap, ◌∙◌}
use lib.IntN.{ℤ, pos, negsuc, ◌+ℤ◌, ◌-ℤ◌}
use lib.Signed.{lt_z}
use mir.Facts.{to_z-of_z}
use mir.Syntax.{w64}
use mir.Val.{SFits, to_z, of_z}
use Rattle.integer.proofs.Parts.{up, down, of_plus, of_minus, less, not_less}
use Rattle.walk.specs.Wide.{bits_of64, wrap64}

-- a number of 64 bits, by its parts
pub fits_parts : (z : ℤ) → up z < down z + 9223372036854775808 → down z ≤ up z + 9223372036854775808 → SFits w64 z
fits_parts (pos n) h k = record { sfits = omega arith }
fits_parts (negsuc n) h k = record { sfits = omega arith }

parts_fit : (z : ℤ) → SFits w64 z → (up z < down z + 9223372036854775808) × (down z ≤ up z + 9223372036854775808)
parts_fit (pos n) f = (omega (arith, f.sfits), omega arith)
parts_fit (negsuc n) f = (omega arith, omega (arith, f.sfits))

-- in range, the bit pattern is the machine's
pub wrap64_in_range : (z : ℤ) → SFits w64 z → wrap64 z ≡ z
wrap64_in_range z f = ap (to_z w64) (pattern z f) ∙ to_z-of_z f
  where
    pattern : (z : ℤ) → SFits w64 z → bits_of64 z ≡ of_z w64 z
    pattern (pos n) f = omega (arith, f.sfits)
    pattern (negsuc n) f = omega (arith, f.sfits)

-- 2^64 less, or more, is the same in 64 bits
pub wraps_down : (x y : ℤ) → SFits w64 y → up x + down y ≡ up y + down x + 18446744073709551616 → wrap64 x ≡ y
wraps_down x y f e = ap (to_z w64) (same x y f e) ∙ wrap64_in_range y f
  where
    same : (x y : ℤ) → SFits w64 y → up x + down y ≡ up y + down x + 18446744073709551616 → bits_of64 x ≡ bits_of64 y
    same (pos n) (pos m) f e = omega (arith, f.sfits)
    same (pos n) (negsuc m) f e = omega (arith, f.sfits)
    same (negsuc n) (pos m) f e = absurd (omega arith)
    same (negsuc n) (negsuc m) f e = absurd (omega (arith, f.sfits))

pub wraps_up : (x y : ℤ) → SFits w64 y → up x + down y + 18446744073709551616 ≡ up y + down x → wrap64 x ≡ y
wraps_up x y f e = ap (to_z w64) (same x y f e) ∙ wrap64_in_range y f
  where
    same : (x y : ℤ) → SFits w64 y → up x + down y + 18446744073709551616 ≡ up y + down x → bits_of64 x ≡ bits_of64 y
    same (pos n) (pos m) f e = absurd (omega (arith, f.sfits))
    same (pos n) (negsuc m) f e = absurd (omega arith)
    same (negsuc n) (pos m) f e = omega (arith, f.sfits)
    same (negsuc n) (negsuc m) f e = omega (arith, f.sfits)

-- ---- what the machine does for a wrapping sum

abbrev pub lowest : ℤ
lowest = negsuc 9223372036854775807

abbrev pub highest : ℤ
highest = pos 9223372036854775807

-- the parts of a sum of two, and that it fits, from bounds on the whole
sum_fits : (x y : ℤ) → up x + up y < down x + down y + 9223372036854775808 → down x + down y ≤ up x + up y + 9223372036854775808 → SFits w64 (x +ℤ y)
sum_fits x y h k = fits_parts (x +ℤ y) (omega (arith, of_plus x y)) (omega (arith, of_plus x y))

difference_fits : (x y : ℤ) → up x + down y < down x + up y + 9223372036854775808 → down x + up y ≤ up x + down y + 9223372036854775808 → SFits w64 (x -ℤ y)
difference_fits x y h k = fits_parts (x -ℤ y) (omega (arith, of_minus x y)) (omega (arith, of_minus x y))

-- 2^63 more, or less, on both sides
pub record Raised (a b : ℤ) : Type 0 where
  pub first : SFits w64 (a -ℤ lowest)
  pub second : SFits w64 (b -ℤ lowest)
  pub sum : SFits w64 ((a -ℤ lowest) +ℤ (b -ℤ lowest))
  pub is : wrap64 (a +ℤ b) ≡ (a -ℤ lowest) +ℤ (b -ℤ lowest)

pub record Lowered (a b : ℤ) : Type 0 where
  pub first : SFits w64 (a +ℤ lowest)
  pub second : SFits w64 (b +ℤ lowest)
  pub sum : SFits w64 ((a +ℤ lowest) +ℤ (b +ℤ lowest))
  pub is : wrap64 (a +ℤ b) ≡ (a +ℤ lowest) +ℤ (b +ℤ lowest)

module _ (a b : ℤ) (fa : SFits w64 a) (fb : SFits w64 b) where
  abbrev InParts : Type 0
  InParts =
      (up a < down a + 9223372036854775808) × (down a ≤ up a + 9223372036854775808) × (up b < down b + 9223372036854775808)
      × (down b ≤ up b + 9223372036854775808)

  in_parts : InParts
  in_parts = ((parts_fit a fa).0, (parts_fit a fa).1, (parts_fit b fb).0, (parts_fit b fb).1)

  -- b negative: the sum can only fall below
  module _ (negative : lt_z b (pos 0) ≡ true) where
    pub lower_limit : SFits w64 (lowest -ℤ b)
    lower_limit =
        let (la, ha, lb, hb) = in_parts in
        let n = less b (pos 0) negative in
        difference_fits lowest b (omega arith) (omega arith)

    pub raises : lt_z a (lowest -ℤ b) ≡ true → Raised a b
    raises below =
        let (la, ha, lb, hb) = in_parts in
        let n = less b (pos 0) negative in
        let far : up a + up b + 9223372036854775808 < down a + down b = omega (arith, of_minus lowest b, less a (lowest -ℤ b) below) in
        let new_a = of_minus a lowest in
        let new_b = of_minus b lowest in
        let sum = sum_fits (a -ℤ lowest) (b -ℤ lowest) (omega arith) (omega arith) in
        record {
          first = difference_fits a lowest (omega arith) (omega arith);
          second = difference_fits b lowest (omega arith) (omega arith);
          sum = sum;
          is = wraps_up (a +ℤ b) ((a -ℤ lowest) +ℤ (b -ℤ lowest)) sum (omega (arith, of_plus a b, of_plus (a -ℤ lowest) (b -ℤ lowest)));
        }

    pub not_below : lt_z a (lowest -ℤ b) ≡ false → SFits w64 (a +ℤ b)
    not_below inside =
        let (la, ha, lb, hb) = in_parts in
        let n = less b (pos 0) negative in
        let near : down a + down b ≤ up a + up b + 9223372036854775808 = omega (arith, of_minus lowest b, not_less a (lowest -ℤ b) inside) in
        sum_fits a b (omega arith) near

  -- b not negative: it can only rise above
  module _ (positive : lt_z b (pos 0) ≡ false) where
    pub upper_limit : SFits w64 (highest -ℤ b)
    upper_limit =
        let (la, ha, lb, hb) = in_parts in
        let n = not_less b (pos 0) positive in
        difference_fits highest b (omega arith) (omega arith)

    pub lowers : lt_z (highest -ℤ b) a ≡ true → Lowered a b
    lowers above =
        let (la, ha, lb, hb) = in_parts in
        let n = not_less b (pos 0) positive in
        let far : down a + down b + 9223372036854775808 ≤ up a + up b = omega (arith, of_minus highest b, less (highest -ℤ b) a above) in
        let new_a = of_plus a lowest in
        let new_b = of_plus b lowest in
        let sum = sum_fits (a +ℤ lowest) (b +ℤ lowest) (omega arith) (omega arith) in
        record {
          first = sum_fits a lowest (omega arith) (omega arith);
          second = sum_fits b lowest (omega arith) (omega arith);
          sum = sum;
          is = wraps_down (a +ℤ b) ((a +ℤ lowest) +ℤ (b +ℤ lowest)) sum (omega (arith, of_plus a b, of_plus (a +ℤ lowest) (b +ℤ lowest)));
        }

    pub not_above : lt_z (highest -ℤ b) a ≡ false → SFits w64 (a +ℤ b)
    not_above inside =
        let (la, ha, lb, hb) = in_parts in
        let n = not_less b (pos 0) positive in
        let near : up a + up b < down a + down b + 9223372036854775808 = omega (arith, of_minus highest b, not_less (highest -ℤ b) a inside) in
        sum_fits a b near (omega arith)
