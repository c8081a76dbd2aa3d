-- The laws of `wrap`: it stays in range, changes nothing in range, and forgets multiples of 2^32, so that a wrapping sum or
-- difference may wrap early or late.
use Prim.Native.Nat.{ℕ, suc, ◌+◌, ◌-◌, ◌*◌, ◌/◌, ◌%◌, ◌≤◌, ◌<◌, ◌^◌}
use native.Mathlib.Omega.{arith}
use mathlib.Core.Bool.{Bool, true, false}
use mathlib.Core.Path.{◌≡◌, refl, ap, sym, subst, ◌∙◌}
use borrow.Author.Tests.{ltb-true, ltb-false, lt-ltb, le-ltb}
use lib.Arith.{digits_mod}
use lib.Dec.{T, ltb}
use lib.IntN.{ℤ, pos, negsuc, nat_abs, ◌+ℤ◌, ◌-ℤ◌}
use lib.Signed.{shr_z, lt_z, non_neg}
use mir.Facts.{sfits_to_z, sfits_widen, to_z-of_z, of_z-to_z}
use mir.Syntax.{w32, w64}
use mir.Val.{SFits, Fits, to_z, of_z}
use Rattle.integer.specs.Word.{bits_of, wrap}
use Rattle.integer.proofs.Bounded.{Below}
use Rattle.integer.proofs.Parts.{up, down, of_plus, of_minus}

pub bits_fit : (z : ℤ) → Fits w32 (bits_of z)
bits_fit (pos n) = record { fits = omega arith }
bits_fit (negsuc n) = record { fits = omega arith }

pub wrap_fits : (z : ℤ) → SFits w32 (wrap z)
wrap_fits z = sfits_to_z (bits_fit z)

pub wrap_below : (z : ℤ) → Below (2 ^ 31) (wrap z)
wrap_below z = record { size = (wrap_fits z).sfits }

-- in range, the bit pattern is the machine's
pub bits_in_range : (z : ℤ) → SFits w32 z → bits_of z ≡ of_z w32 z
bits_in_range (pos n) f = omega (arith, f.sfits)
bits_in_range (negsuc n) f = omega (arith, f.sfits)

pub wrap_in_range : (z : ℤ) → SFits w32 z → wrap z ≡ z
wrap_in_range z f = ap (to_z w32) (bits_in_range z f) ∙ to_z-of_z f

-- the bit pattern by the parts: -1 counts as 2^32 - 1
pub bits_parts : (z : ℤ) → bits_of z ≡ (up z + 4294967295 * down z) % 4294967296
bits_parts (pos n) = omega arith
bits_parts (negsuc n) =
    let low : 4294967295 - n % 4294967296 < 4294967296 = omega arith in
    let split : 0 + 4294967295 * suc n ≡ (n - n / 4294967296) * 4294967296 + (4294967295 - n % 4294967296) = omega arith in
    sym (ap (λ (m : ℕ). m % 4294967296) split ∙ digits_mod (n - n / 4294967296) low)

sum_bits : (x y : ℤ) → bits_of (x +ℤ y) ≡ (bits_of x + bits_of y) % 4294967296
sum_bits x y = omega (arith, of_plus x y, bits_parts x, bits_parts y, bits_parts (x +ℤ y))

minus_bits : (x y : ℤ) → bits_of (x -ℤ y) ≡ (bits_of x + 4294967295 * bits_of y) % 4294967296
minus_bits x y = omega (arith, of_minus x y, bits_parts x, bits_parts y, bits_parts (x -ℤ y))

pub bits_of_wrap : (z : ℤ) → bits_of (wrap z) ≡ bits_of z
bits_of_wrap z = bits_in_range (wrap z) (wrap_fits z) ∙ of_z-to_z (bits_fit z)

-- a part of a sum or of a difference may be wrapped before the whole is
pub wrap_plus_left : (x y : ℤ) → wrap (wrap x +ℤ y) ≡ wrap (x +ℤ y)
wrap_plus_left x y = simp (sum_bits (wrap x) y, sum_bits x y, bits_of_wrap x)

pub wrap_plus_right : (x y : ℤ) → wrap (x +ℤ wrap y) ≡ wrap (x +ℤ y)
wrap_plus_right x y = simp (sum_bits x (wrap y), sum_bits x y, bits_of_wrap y)

pub wrap_minus_left : (x y : ℤ) → wrap (wrap x -ℤ y) ≡ wrap (x -ℤ y)
wrap_minus_left x y = simp (minus_bits (wrap x) y, minus_bits x y, bits_of_wrap x)

pub wrap_minus_right : (x y : ℤ) → wrap (x -ℤ wrap y) ≡ wrap (x -ℤ y)
wrap_minus_right x y = simp (minus_bits x (wrap y), minus_bits x y, bits_of_wrap y)

-- ---- what the machine does for a low word: 32 bits up and 32 down again

by_half : (n : ℕ) (t : Bool) → ltb (n % 4294967296) 2147483648 ≡ t → shr_z (to_z w64 ((n * 4294967296) % 18446744073709551616)) 4294967296 ≡ to_z w32 (n % 4294967296)
by_half n true e =
    let r : n % 4294967296 < 2147483648 = ltb-true _ _ e in
    let u : (n * 4294967296) % 18446744073709551616 < 9223372036854775808 = omega arith in
    let q : (n * 4294967296) % 18446744073709551616 / 4294967296 ≡ n % 4294967296 = omega arith in
    simp (lt-ltb _ _ r, lt-ltb _ _ u, q)
by_half n false e =
    let r : 2147483648 ≤ n % 4294967296 = ltb-false _ _ e in
    let u : 9223372036854775808 ≤ (n * 4294967296) % 18446744073709551616 = omega arith in
    let q : (18446744073709551616 - suc ((n * 4294967296) % 18446744073709551616)) / 4294967296 ≡ 4294967296 - suc (n % 4294967296) = omega arith in
    simp (le-ltb _ _ r, le-ltb _ _ u, q)

low_bits : (x : ℤ) → SFits w64 x → of_z w64 x % 4294967296 ≡ bits_of x
low_bits (pos n) f = refl
low_bits (negsuc n) f = omega (arith, f.sfits)

pub up_and_down : (x : ℤ) → SFits w64 x → shr_z (to_z w64 ((of_z w64 x * 4294967296) % 18446744073709551616)) 4294967296 ≡ wrap x
up_and_down x f = by_half (of_z w64 x) (ltb (of_z w64 x % 4294967296) 2147483648) refl ∙ ap (to_z w32) (low_bits x f)

-- a low word, as an `i64` holds it
pub word_back : (x : ℤ) → to_z w64 (of_z w64 (wrap x)) ≡ wrap x
word_back x = to_z-of_z (sfits_widen {w' = w64} tt (wrap_fits x))

-- ---- what the machine does for a bit pattern: 2^32 more where the number is negative

pub record Pattern (z made : ℤ) : Type 0 where
  pub not_negative : T (non_neg made)
  pub is : nat_abs made ≡ bits_of z

pub pattern_negative : (z : ℤ) → SFits w32 z → lt_z z (pos 0) ≡ true → Pattern z (z +ℤ pos 4294967296)
pattern_negative (pos n) f e = absurd (subst (λ (t : Bool). T t) (sym e ∙ le-ltb n 0 (omega arith)) tt)
pattern_negative (negsuc n) f e =
    let fits : suc n ≤ 4294967296 = omega (arith, f.sfits) in
    record { not_negative = simp (le-ltb 4294967296 (suc n) fits) tt; is = simp (le-ltb 4294967296 (suc n) fits) (omega (arith, f.sfits)) }

pub pattern_positive : (z : ℤ) → SFits w32 z → lt_z z (pos 0) ≡ false → Pattern z z
pattern_positive (pos n) f e = record { not_negative = tt; is = omega (arith, f.sfits) }
pattern_positive (negsuc n) f e = absurd (subst (λ (t : Bool). T t) e tt)
