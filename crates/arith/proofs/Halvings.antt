-- The highest set bit: its place by halvings, by the powers of 2 around the number, and by the count of leading zeros.
use mathlib.Core.Path.{◌≡◌, refl}
use Prim.Native.Nat.{ℕ, zero, suc, ◌+◌, ◌-◌, ◌/◌, ◌^◌, ◌≤◌, ◌<◌}
use native.Mathlib.Nat.{pow-suc, not-suc-le-zero, zero-lt-suc}
use native.Mathlib.Omega.{arith}
use borrow.Author.Tests.{lt-ltb, le-ltb, ne_eqb}
use lib.Count.{count_leading_zeros, leading_top, leading_of_zero}
use lib.Pow.{pow_pos}
use Rattle.arith.specs.Weights.{halvings, floor_log2}

pub halvings_is : (k j n : ℕ) → 2 ^ j ≤ n → n < 2 ^ suc j → j < k → halvings k n ≡ j
unfolding halvings
halvings_is zero j n low high h = absurd (not-suc-le-zero h)
halvings_is (suc k) zero n low high h = rw (lt-ltb n 2 high)
halvings_is (suc k) (suc j) n low high h =
    let more : 2 ≤ n = omega (arith, pow-suc 2 j, pow_pos j) in
    rw (le-ltb n 2 more, halvings_is k j (n / 2) (omega (arith, pow-suc 2 j)) (omega (arith, pow-suc 2 (suc j))) (omega arith))

-- the zeros above it, the bit itself and the bits below it make 64
place : (n : ℕ) → 0 < n → n < 2 ^ 64 → (count_leading_zeros 64 n + suc (floor_log2 n) ≡ 64) × (2 ^ floor_log2 n ≤ n) × (n < 2 ^ suc (floor_log2 n))
unfolding floor_log2
place n p h =
    let top = leading_top 64 n p h in
    rw (ne_eqb n 0 (λ e. omega arith), halvings_is 64 top.0 n top.2 top.3 (omega (arith, top.1))) (top.1, top.2, top.3)

-- what a reader expects of the highest set bit
pub highest_bit : (n : ℕ) → 0 < n → n < 2 ^ 64 → (2 ^ floor_log2 n ≤ n) × (n < 2 ^ suc (floor_log2 n))
highest_bit n p h = ((place n p h).1, (place n p h).2)

pub some_set : (n : ℕ) → n < 2 ^ 64 → count_leading_zeros 64 n < 64 → 63 - count_leading_zeros 64 n ≡ floor_log2 n
some_set zero h z = absurd (omega (arith, leading_of_zero 64))
some_set (suc n) h z = omega (arith, (place (suc n) (zero-lt-suc n) h).0)

pub none_set : (n : ℕ) → n < 2 ^ 64 → 64 ≤ count_leading_zeros 64 n → 127 ≡ floor_log2 n
unfolding floor_log2
none_set zero h z = refl
none_set (suc n) h z = absurd (omega (arith, (place (suc n) (zero-lt-suc n) h).0))
