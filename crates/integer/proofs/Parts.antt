-- A whole number as the difference of two naturals, z = up z - down z, so that `omega`, which reads ℕ only, proves facts of ℤ:
-- each operation and each test is one linear fact about the parts, and `same` turns an equation of parts into one of numbers.
use Prim.Native.Nat.{ℕ, zero, suc, ◌+◌, ◌-◌, ◌*◌, ◌/◌, ◌≤◌, ◌<◌}
use native.Mathlib.Nat.{mul-zero, zero-div}
use native.Mathlib.Omega.{arith}
use mathlib.Core.Bool.{Bool, true, false, cond}
use mathlib.Core.Path.{◌≡◌, refl, ap, sym, subst, subst⁻¹}
use borrow.Author.Tests.{ltb-true, ltb-false, lt-ltb, le-ltb}
use lib.Dec.{T, ltb}
use lib.IntN.{ℤ, pos, negsuc, sub_ℕ, neg_ℤ, nat_abs, ◌+ℤ◌, ◌-ℤ◌, ◌*ℤ◌}
use lib.Signed.{lt_z, quot_z}
use Rattle.integer.specs.Order.{magnitude}
use Rattle.integer.proofs.Bounded.{Below}

abbrev pub up : ℤ → ℕ
up (pos n) = n
up (negsuc n) = 0

abbrev pub down : ℤ → ℕ
down (pos n) = 0
down (negsuc n) = suc n

-- ---- operations

of_sub_by : (a b : ℕ) (t : Bool) → ltb a b ≡ t → up (cond t (negsuc (b - suc a)) (pos (a - b))) + b ≡ a + down (cond t (negsuc (b - suc a)) (pos (a - b)))
of_sub_by a b true e = omega (arith, ltb-true a b e)
of_sub_by a b false e = omega (arith, ltb-false a b e)

of_sub : (a b : ℕ) → up (sub_ℕ a b) + b ≡ a + down (sub_ℕ a b)
of_sub a b = of_sub_by a b (ltb a b) refl

pub of_plus : (x y : ℤ) → up (x +ℤ y) + (down x + down y) ≡ up x + up y + down (x +ℤ y)
of_plus (pos a) (pos b) = omega arith
of_plus (pos a) (negsuc b) = omega (arith, of_sub a (suc b))
of_plus (negsuc a) (pos b) = omega (arith, of_sub b (suc a))
of_plus (negsuc a) (negsuc b) = omega arith

pub up_neg : (z : ℤ) → up (neg_ℤ z) ≡ down z
up_neg (pos zero) = refl
up_neg (pos (suc n)) = refl
up_neg (negsuc n) = refl

pub down_neg : (z : ℤ) → down (neg_ℤ z) ≡ up z
down_neg (pos zero) = refl
down_neg (pos (suc n)) = refl
down_neg (negsuc n) = refl

pub of_minus : (x y : ℤ) → up (x -ℤ y) + (down x + up y) ≡ up x + down y + down (x -ℤ y)
of_minus x y = omega (arith, of_plus x (neg_ℤ y), up_neg y, down_neg y)

-- by a factor that is not negative
pub up_times : (k : ℕ) (z : ℤ) → up (pos k *ℤ z) ≡ k * up z
up_times k (pos n) = refl
up_times k (negsuc n) = rw (up_neg (pos (k * suc n)), mul-zero)

pub down_times : (k : ℕ) (z : ℤ) → down (pos k *ℤ z) ≡ k * down z
down_times k (pos n) = sym (mul-zero k)
down_times k (negsuc n) = down_neg (pos (k * suc n))

-- a quotient toward zero
pub up_quot : (m : ℕ) (z : ℤ) → up (quot_z z (pos m)) ≡ up z / m
up_quot m (pos n) = refl
up_quot m (negsuc n) = rw (up_neg (pos (suc n / m)), zero-div)

pub down_quot : (m : ℕ) (z : ℤ) → down (quot_z z (pos m)) ≡ down z / m
down_quot m (pos n) = sym (zero-div m)
down_quot m (negsuc n) = down_neg (pos (suc n / m))

pub of_abs : (z : ℤ) → nat_abs z ≡ up z + down z
of_abs (pos n) = omega arith
of_abs (negsuc n) = omega arith

-- ---- bounds

pub up_below : {b : ℕ} (z : ℤ) → Below b z → up z ≤ b
up_below (pos n) h = omega (arith, h.size)
up_below (negsuc n) h = omega arith

pub down_below : {b : ℕ} (z : ℤ) → Below b z → down z ≤ b
down_below (pos n) h = omega arith
down_below (negsuc n) h = h.size

-- ---- order and equality

pub less : (x y : ℤ) → lt_z x y ≡ true → up x + down y < up y + down x
less (pos a) (pos b) e = omega (arith, ltb-true a b e)
less (pos a) (negsuc b) e = absurd (subst⁻¹ (λ (t : Bool). T t) e tt)
less (negsuc a) (pos b) e = omega arith
less (negsuc a) (negsuc b) e = omega (arith, ltb-true b a e)

pub not_less : (x y : ℤ) → lt_z x y ≡ false → up y + down x ≤ up x + down y
not_less (pos a) (pos b) e = omega (arith, ltb-false a b e)
not_less (pos a) (negsuc b) e = omega arith
not_less (negsuc a) (pos b) e = absurd (subst (λ (t : Bool). T t) e tt)
not_less (negsuc a) (negsuc b) e = omega (arith, ltb-false b a e)

pub is_less : (x y : ℤ) → up x + down y < up y + down x → lt_z x y ≡ true
is_less (pos a) (pos b) h = lt-ltb a b (omega arith)
is_less (pos a) (negsuc b) h = absurd (omega arith)
is_less (negsuc a) (pos b) h = refl
is_less (negsuc a) (negsuc b) h = lt-ltb b a (omega arith)

pub is_not_less : (x y : ℤ) → up y + down x ≤ up x + down y → lt_z x y ≡ false
is_not_less (pos a) (pos b) h = le-ltb a b (omega arith)
is_not_less (pos a) (negsuc b) h = refl
is_not_less (negsuc a) (pos b) h = absurd (omega arith)
is_not_less (negsuc a) (negsuc b) h = le-ltb b a (omega arith)

pub same : (x y : ℤ) → up x + down y ≡ up y + down x → x ≡ y
same (pos a) (pos b) e = ap pos (omega arith)
same (pos a) (negsuc b) e = absurd (omega arith)
same (negsuc a) (pos b) e = absurd (omega arith)
same (negsuc a) (negsuc b) e = ap negsuc (omega arith)

-- ---- the magnitude by a test against 0

pub magnitude_negative : (z : ℤ) → lt_z z (pos 0) ≡ true → pos 0 -ℤ z ≡ magnitude z
magnitude_negative (pos n) e = absurd (omega (arith, less (pos n) (pos 0) e))
magnitude_negative (negsuc n) e = ap pos (omega arith)

pub magnitude_positive : (z : ℤ) → lt_z z (pos 0) ≡ false → z ≡ magnitude z
magnitude_positive (pos n) e = refl
magnitude_positive (negsuc n) e = absurd (subst (λ (t : Bool). T t) e tt)
