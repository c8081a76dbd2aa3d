-- How large a sum, a product and a shifted number are, what std's `min` and `max` choose, and that a number that fits its type is
-- read back as it is. `mag z` is what the range of a signed type bounds: z for z ≥ 0, and -(z + 1) below 0.
use Rattle.std.proofs.Common.{◌≡◌, ℕ, zero, suc, ◌+◌, ◌-◌, ◌*◌, ◌/◌, ◌≤◌, ◌<◌, ◌^◌, ℤ, pos, negsuc, ◌+ℤ◌, ◌*ℤ◌, neg_ℤ, FitsSigned, w32, w64, to_z, of_z, arith, Bool, true, false, cond, refl, ltb}
use Rattle.std.proofs.Math.Nat.{mul-le-mul}
use Rattle.std.specs.Int.{int_min, int_max}
use Rattle.std.specs.Int.Signed.{mag, shr_z, lt_z}
use Rattle.std.proofs.lemmas.Bool.Decides.{nat_tests}
use Rattle.std.proofs.lemmas.Int.{to_z-of_z, to_z_pos}
use Rattle.integer.specs.Order.{if, smaller, larger}

pub back32 : (z : ℤ) → mag z < 2 ^ 31 → to_z w32 (of_z w32 z) ≡ z
back32 z h = to_z-of_z w32 z (record { sfits = h })

pub back64 : (z : ℤ) → mag z < 2 ^ 63 → to_z w64 (of_z w64 z) ≡ z
back64 z h = to_z-of_z w64 z (record { sfits = h })

pub small64 : (n : ℕ) → n < 2 ^ 63 → to_z w64 n ≡ pos n
small64 n h = to_z_pos w64 n h

pub fits64 : (z : ℤ) → mag z < 2 ^ 63 → FitsSigned w64 z
fits64 z h = record { sfits = h }

difference : (a b : ℕ) (t : Bool) → ltb a b ≡ t → mag (cond t (negsuc (b - suc a)) (pos (a - b))) ≤ a + b
difference a b true e = omega arith
difference a b false e = omega arith

pub mag_add : (x y : ℤ) → mag (x +ℤ y) ≤ mag x + mag y + 1
mag_add (pos a) (pos b) = omega arith
mag_add (pos a) (negsuc b) = omega (arith, difference a (suc b) (ltb a (suc b)) refl)
mag_add (negsuc a) (pos b) = omega (arith, difference b (suc a) (ltb b (suc a)) refl)
mag_add (negsuc a) (negsuc b) = omega arith

pub mag_neg : (z : ℤ) → mag (neg_ℤ z) ≤ mag z + 1
mag_neg (pos zero) = omega arith
mag_neg (pos (suc n)) = omega arith
mag_neg (negsuc n) = omega arith

neg_most : (n : ℕ) → mag (neg_ℤ (pos n)) ≤ n
neg_most zero = omega arith
neg_most (suc n) = omega arith

pub mag_times : (x : ℤ) (k : ℕ) → k ≤ 31 → mag (x *ℤ pos k) ≤ 31 * (mag x + 1)
mag_times (pos a) k h = let more : a ≤ a + 1 = omega arith in omega (arith, mul-le-mul more h)
mag_times (negsuc a) k h = let same : suc a ≤ a + 1 = omega arith in omega (arith, neg_most (suc a * k), mul-le-mul same h)

pub mag_shift : (z : ℤ) (m : ℕ) → mag (shr_z z m) ≡ mag z / m
mag_shift (pos a) m = refl
mag_shift (negsuc a) m = refl

pub min_is : (a b : ℤ) → int_min a b ≡ smaller a b
min_is (pos a) (pos b) = grind (arith, nat_tests)
min_is (pos a) (negsuc b) = refl
min_is (negsuc a) (pos b) = refl
min_is (negsuc a) (negsuc b) = grind (arith, nat_tests)

pub max_is : (a b : ℤ) → int_max a b ≡ larger a b
max_is (pos a) (pos b) = grind (arith, nat_tests)
max_is (pos a) (negsuc b) = refl
max_is (negsuc a) (pos b) = refl
max_is (negsuc a) (negsuc b) = grind (arith, nat_tests)

either : (t : Bool) (x y : ℤ) → mag (if t x y) ≤ mag x + mag y
either true x y = omega arith
either false x y = omega arith

pub mag_smaller : (x y : ℤ) → mag (smaller x y) ≤ mag x + mag y
mag_smaller x y = either (lt_z x y) x y

pub mag_larger : (x y : ℤ) → mag (larger x y) ≤ mag x + mag y
mag_larger x y = omega (arith, either (lt_z x y) y x)

pub ruleset sizes = (back32, back64, small64, fits64, mag_add, mag_neg, mag_times, mag_shift)

pub ruleset chosen = (back64, min_is, max_is)

pub ruleset between = (mag_smaller, mag_larger)
