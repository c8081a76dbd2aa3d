-- The error weight's index lies in the table, so "modulo 64" never acts: x + 1 lies between two powers of 2, and the shift leaves 6 bits.
use mathlib.Core.Bool.{Bool, true, false}
use mathlib.Core.Path.{◌≡◌, refl, ap, sym, ◌∙◌}
use Prim.Native.Nat.{ℕ, suc, ◌+◌, ◌-◌, ◌*◌, ◌/◌, ◌^◌, ◌≤◌, ◌<◌}
use native.Mathlib.Nat.{lt_of_not-le, sub-add_cancel, pow-suc, mod-eq_of_lt, le-div_iff_mul-le, div-lt_iff_lt-mul}
use native.Mathlib.Omega.{arith}
use borrow.Author.Tests.{ltb-true, ltb-false}
use lib.Dec.{ltb}
use lib.Pow.{pow_pos, pow_mono, pow-add}
use Rattle.integer.specs.Order.{if}
use Rattle.arith.specs.Weights.{entry, entry_at, floor_log2, weight_by}
use Rattle.arith.proofs.Halvings.{highest_bit}

module _ (x h : ℕ) (fits : x < 2 ^ 32) (is : h ≡ floor_log2 (x + 1)) where
  around : (2 ^ h ≤ x + 1) × (x + 1 < 2 ^ suc h)
  around = rw is (highest_bit (x + 1) (omega arith) (omega arith))

  -- a shift by h - 5 is one by less than 32
  pub place_bound : h < 33
  place_bound = lt_of_not-le (λ (g : 33 ≤ h). omega (arith, pow_mono g, around.0))

  pub index_in_range : (h < 5 → x ≤ 30) × (5 ≤ h → (31 ≤ x / 2 ^ (h - 5)) × (x / 2 ^ (h - 5) < 64))
  index_in_range = (
    λ (g : h < 5). omega (arith, pow_mono g, around.1),
    λ (g : 5 ≤ h).
        let five : 2 ^ h ≡ 2 ^ (h - 5) * 32 = ap (λ (n : ℕ). 2 ^ n) (sym (sub-add_cancel g)) ∙ pow-add 2 (h - 5) 5 in
        let some = pow_pos (h - 5) in
        ((le-div_iff_mul-le some).1 (omega (arith, around.0)), (div-lt_iff_lt-mul some).1 (omega (arith, pow-suc 2 h, around.1))),
  )

  by_test : (m : ℕ) (t : Bool) → ltb h 5 ≡ t →
      if t (4 + m * entry_at x) (4 + m * entry_at (x / 2 ^ (h - 5)) / 2 ^ (h - 5)) ≡ if t (4 + m * entry x) (4 + m * entry (x / 2 ^ (h - 5)) / 2 ^ (h - 5))
  by_test m true e = let low : x < 64 = omega (arith, index_in_range.0 (ltb-true h 5 e)) in rw (mod-eq_of_lt low)
  by_test m false e = rw (mod-eq_of_lt (index_in_range.1 (ltb-false h 5 e)).1)

  -- the weight in the paper's own words, with no modulo
  pub weight_is : (m : ℕ) → weight_by h x m ≡ if (ltb h 5) (4 + m * entry x) (4 + m * entry (x / 2 ^ (h - 5)) / 2 ^ (h - 5))
  weight_is m = by_test m (ltb h 5) refl
