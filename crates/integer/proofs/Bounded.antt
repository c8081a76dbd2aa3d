-- Bounds on whole numbers, carried along with each operation, so that "it fits" computes.
-- `Below b z` says that z is at least -b and less than b. One line an operation; `fits tt` answers a goal, `back tt` reads back
-- what an `i64` holds.
use Prim.Native.Nat.{ℕ, zero, suc, ◌+◌, ◌-◌, ◌*◌, ◌/◌, ◌≤◌, ◌<◌, ◌^◌, zero-le}
use native.Mathlib.Nat.{div-le_self, div-mul-le_self, div-zero, le-div_iff_mul-le, mul-le-mul, mul-le-mul_right, mul-suc, mul-pos, le_refl, le_trans, lt_of_lt_of_le, le_of_lt, zero-lt-suc}
use native.Mathlib.Omega.{arith}
use mathlib.Core.Bool.{Bool, true, false, cond}
use mathlib.Core.Path.{◌≡◌, refl}
use lib.Dec.{T, ltb, leb, leb→le}
use lib.IntN.{ℤ, pos, negsuc, sub_ℕ, neg_ℤ, nat_abs, ◌+ℤ◌, ◌-ℤ◌, ◌*ℤ◌}
use lib.Signed.{mag, shr_z, quot_z, lt_z, mag_shr}
use mir.Facts.{to_z-of_z}
use mir.Syntax.{Width, w64}
use mir.Val.{SFits, to_z, of_z, hbits}
use Rattle.integer.specs.Order.{if, smaller, larger, magnitude}

pub record Below (b : ℕ) (z : ℤ) : Type 0 where
  pub size : mag z < b

-- what a goal asks: `fits tt h`
pub fits : {w : Width} {b : ℕ} {z : ℤ} → T (leb b (2 ^ hbits w)) → Below b z → SFits w z
fits {w} {b} t h = record { sfits = lt_of_lt_of_le h.size (leb→le b (2 ^ hbits w) t) }

-- what an `i64` holds is the number again: `back tt h`
pub back : {b : ℕ} {z : ℤ} → T (leb b (2 ^ 63)) → Below b z → to_z w64 (of_z w64 z) ≡ z
back t h = to_z-of_z (fits {w = w64} t h)

-- what a call's result holds is the number again: `held w32 c.CALL.result c.CALL.type_inv`
pub held : (w : Width) (z : ℤ) → mag z < 2 ^ hbits w → to_z w (of_z w z) ≡ z
held w z h = to_z-of_z (record { sfits = h })

pub of_fits : {w : Width} {z : ℤ} → SFits w z → Below (2 ^ hbits w) z
of_fits f = record { size = f.sfits }

-- a looser bound: `looser tt h`
pub looser : {a b : ℕ} {z : ℤ} → T (leb a b) → Below a z → Below b z
looser {a} {b} t h = record { size = lt_of_lt_of_le h.size (leb→le a b t) }

-- the same by a proof
pub at_most : {a b : ℕ} {z : ℤ} → a ≤ b → Below a z → Below b z
at_most l h = record { size = lt_of_lt_of_le h.size l }

-- a numeral: `literal tt`
pub literal : {b : ℕ} {z : ℤ} → T (ltb (mag z) b) → Below b z
literal {b} {z} t = record { size = leb→le (suc (mag z)) b t }

pick : (a b : ℕ) (t : Bool) → ltb a b ≡ t → mag (cond t (negsuc (b - suc a)) (pos (a - b))) ≤ a + b
pick a b true e = omega arith
pick a b false e = omega arith

mag_sub : (a b : ℕ) → mag (sub_ℕ a b) ≤ a + b
mag_sub a b = pick a b (ltb a b) refl

mag_add : (a b : ℤ) → mag (a +ℤ b) ≤ mag a + mag b + 1
mag_add (pos a) (pos b) = omega arith
mag_add (pos a) (negsuc b) = omega (arith, mag_sub a (suc b))
mag_add (negsuc a) (pos b) = omega (arith, mag_sub b (suc a))
mag_add (negsuc a) (negsuc b) = omega arith

mag_neg : (z : ℤ) → mag (neg_ℤ z) ≤ mag z + 1
mag_neg (pos zero) = zero-le
mag_neg (pos (suc n)) = omega arith
mag_neg (negsuc n) = omega arith

pub plus : {a b : ℕ} {x y : ℤ} → Below a x → Below b y → Below (a + b) (x +ℤ y)
plus {x = x} {y = y} h k = record { size = omega (arith, mag_add x y, h.size, k.size) }

pub minus : {a b : ℕ} {x y : ℤ} → Below a x → Below b y → Below (a + b + 1) (x -ℤ y)
minus {x = x} {y = y} h k = record { size = omega (arith, mag_add x (neg_ℤ y), mag_neg y, h.size, k.size) }

abs_le : {b : ℕ} (z : ℤ) → Below b z → nat_abs z ≤ b
abs_le (pos n) h = omega (arith, h.size)
abs_le (negsuc n) h = h.size

-- the magnitude, which can be one more: |-b| is b
pub sized : {b : ℕ} {z : ℤ} → Below b z → Below (b + 1) (magnitude z)
sized {z = z} h = record { size = omega (arith, abs_le z h) }

mag_of_neg : (n : ℕ) → mag (neg_ℤ (pos n)) ≤ n
mag_of_neg zero = zero-le
mag_of_neg (suc n) = omega arith

mag_of_neg_less : (n : ℕ) → 0 < n → mag (neg_ℤ (pos n)) < n
mag_of_neg_less zero h = h
mag_of_neg_less (suc n) h = omega arith

mag_mul : (x y : ℤ) → mag (x *ℤ y) ≤ nat_abs x * nat_abs y
mag_mul (pos a) (pos b) = omega arith
mag_mul (pos a) (negsuc b) = mag_of_neg (a * suc b)
mag_mul (negsuc a) (pos b) = mag_of_neg (suc a * b)
mag_mul (negsuc a) (negsuc b) = omega arith

pub times : {a b : ℕ} {x y : ℤ} → Below a x → Below b y → Below (a * b + 1) (x *ℤ y)
times {x = x} {y = y} h k = record { size = omega (arith, mag_mul x y, mul-le-mul (abs_le x h) (abs_le y k)) }

-- by a factor that is a natural number at most n
mag_mul_nat : (x : ℤ) (k : ℕ) → mag (x *ℤ pos k) ≤ suc (mag x) * k
mag_mul_nat (pos a) k = mul-le-mul_right k (omega arith)
mag_mul_nat (negsuc a) k = mag_of_neg (suc a * k)

pub by_factor : (n : ℕ) {k a : ℕ} {x : ℤ} → k ≤ n → Below a x → Below (a * n + 1) (x *ℤ pos k)
by_factor n {k} {a} {x} f h = record { size = omega (arith, mag_mul_nat x k, mul-le-mul h.size f) }

-- a literal factor in front
mag_scale : (n : ℕ) (x : ℤ) → mag (pos (suc n) *ℤ x) < suc n * suc (mag x)
mag_scale n (pos a) = omega (arith, mul-suc (suc n) a)
mag_scale n (negsuc a) = omega (arith, mag_of_neg_less (suc n * suc a) (mul-pos (zero-lt-suc n) (zero-lt-suc a)))

pub scaled : (n : ℕ) {a : ℕ} {x : ℤ} → Below a x → Below (suc n * a) (pos (suc n) *ℤ x)
scaled n {x = x} h = record { size = lt_of_lt_of_le (mag_scale n x) (mul-le-mul (le_refl (suc n)) h.size) }

pub shifted : (m : ℕ) {b : ℕ} {z : ℤ} → Below b z → Below b (shr_z z m)
shifted m {z = z} h = record { size = omega (arith, mag_shr z m, h.size) }

div_mono : (m : ℕ) {a b : ℕ} → a ≤ b → a / m ≤ b / m
div_mono zero {a} {b} h = rw (div-zero a, div-zero b) (le_refl 0)
div_mono (suc m) {a} {b} h = (le-div_iff_mul-le (zero-lt-suc m)).1 (le_trans (div-mul-le_self a (suc m)) h)

mag_shr_is : (z : ℤ) (m : ℕ) → mag (shr_z z m) ≡ mag z / m
mag_shr_is (pos a) m = refl
mag_shr_is (negsuc a) m = refl

-- a shift that divides the bound too
pub shifted_down : (m : ℕ) {b : ℕ} {z : ℤ} → Below b z → Below (b / m + 1) (shr_z z m)
shifted_down m {b} {z} h = record { size = omega (arith, mag_shr_is z m, div_mono m (le_of_lt h.size)) }

mag_quot : (z : ℤ) (m : ℕ) → mag (quot_z z (pos m)) ≤ nat_abs z
mag_quot (pos a) m = div-le_self a m
mag_quot (negsuc a) m = le_trans (mag_of_neg (suc a / m)) (div-le_self (suc a) m)

-- a quotient toward zero by a number that is not negative
pub divided : (m : ℕ) {b : ℕ} {z : ℤ} → Below b z → Below (b + 1) (quot_z z (pos m))
divided m {z = z} h = record { size = omega (arith, mag_quot z m, abs_le z h) }

chosen : {b : ℕ} {x y : ℤ} (t : Bool) → Below b x → Below b y → Below b (if t x y)
chosen true h k = h
chosen false h k = k

pub the_smaller : {b : ℕ} {x y : ℤ} → Below b x → Below b y → Below b (smaller x y)
the_smaller {x = x} {y = y} h k = chosen (lt_z x y) h k

pub the_larger : {b : ℕ} {x y : ℤ} → Below b x → Below b y → Below b (larger x y)
the_larger {x = x} {y = y} h k = chosen (lt_z x y) k h
