-- The weights once shifted sum to 13..31, so the table's index is in range, and the product in the average stays below 2^63.
use lib.IntN.{ℤ, pos, ◌+ℤ◌, ◌*ℤ◌}
use lib.Pow.{pow_pos, pow_mono, pow-add}
use lib.Signed.{mag}
use mathlib.Core.Path.{◌≡◌, ap, sym, ◌∙◌}
use native.Mathlib.Nat.{add-mul, div-mul-le_self, div-add-mod', le_refl, lt_of_not-le, mod-eq_of_lt, mod-lt, mul-le-mul, mul-le-mul_right, pow-suc, sub-add_cancel}
use native.Mathlib.Omega.{arith}
use Prim.Native.Nat.{ℕ, suc, ◌+◌, ◌-◌, ◌*◌, ◌/◌, ◌^◌, ◌≤◌, ◌<◌}
use Rattle.arith.proofs.Halvings.{highest_bit}
use Rattle.arith.specs.Weights.{entry, entry_at, floor_log2}
use Rattle.integer.proofs.Bounded.{Below, at_most, looser, plus, by_factor, shifted_down}
use Rattle.arith.specs.declared.Four.{Four}
use Rattle.blend.specs.Blend.{Light, Small, total, normalised, average_by}

-- a number between its quotient's multiple and the next
between : (n k : ℕ) → 0 < k → (n / k * k ≤ n) × (n < n / k * k + k)
between n k p = (div-mul-le_self n k, omega (arith, div-add-mod' n k, mod-lt n p))

-- four numbers whose sum has its highest bit at 16k, divided by k
module _ (a b c d k : ℕ) (some : 0 < k) (low : 16 * k ≤ a + b + c + d) (high : a + b + c + d < 32 * k) where
  multiple : (a / k + b / k + c / k + d / k) * k ≡ a / k * k + b / k * k + c / k * k + d / k * k
  multiple = rw (add-mul (a / k + b / k + c / k) (d / k) k, add-mul (a / k + b / k) (c / k) k, add-mul (a / k) (b / k) k)

  quotients_most : a / k + b / k + c / k + d / k ≤ 31
  quotients_most =
      let less : a / k + b / k + c / k + d / k < 32 =
      lt_of_not-le (λ (g : 32 ≤ a / k + b / k + c / k + d / k). omega (arith, mul-le-mul_right k g, multiple, between a k some, between b k some, between c k some, between d k some, high)) in
      omega arith

  quotients_least : 13 ≤ a / k + b / k + c / k + d / k
  quotients_least =
      lt_of_not-le
      (λ (g : a / k + b / k + c / k + d / k ≤ 12). omega (arith, mul-le-mul_right k g, multiple, between a k some, between b k some, between c k some, between d k some, low))

module _ (w : Four) (light : Light w) where
  pub heavy : (16 ≤ total w) × (total w < 2 ^ 30)
  heavy =
      let l0 = light.light0 in
      let l1 = light.light1 in
      let l2 = light.light2 in
      let l3 = light.light3 in
      (omega (arith, l0, l1, l2, l3), omega (arith, l0, l1, l2, l3))

  around : (2 ^ floor_log2 (total w) ≤ total w) × (total w < 2 ^ suc (floor_log2 (total w)))
  around = highest_bit (total w) (omega (arith, heavy)) (omega (arith, heavy))

  pub log_least : 4 ≤ floor_log2 (total w)
  log_least = lt_of_not-le (λ (g : floor_log2 (total w) ≤ 3). omega (arith, pow_mono g, pow-suc 2 (floor_log2 (total w)), around, heavy))

  pub log_most : floor_log2 (total w) ≤ 29
  log_most =
      let less : floor_log2 (total w) < 30 = lt_of_not-le (λ (g : 30 ≤ floor_log2 (total w)). omega (arith, pow_mono g, around, heavy)) in
      omega arith

  unit : 2 ^ floor_log2 (total w) ≡ 2 ^ (floor_log2 (total w) - 4) * 16
  unit = ap (λ (n : ℕ). 2 ^ n) (sym (sub-add_cancel log_least)) ∙ pow-add 2 (floor_log2 (total w) - 4) 4

  -- "after the shift the weight sum lies in 13..31"
  pub weight_sum_range : (13 ≤ total (normalised w)) × (total (normalised w) ≤ 31)
  unfolding normalised
  weight_sum_range =
      let k = 2 ^ (floor_log2 (total w) - 4) in
      let low : 16 * k ≤ w.e0 + w.e1 + w.e2 + w.e3 = omega (arith, unit, around) in
      let high : w.e0 + w.e1 + w.e2 + w.e3 < 32 * k = omega (arith, unit, pow-suc 2 (floor_log2 (total w)), around) in
      (quotients_least _ _ _ _ k (pow_pos (floor_log2 (total w) - 4)) low high, quotients_most _ _ _ _ k (pow_pos (floor_log2 (total w) - 4)) low high)

pub ruleset log_bounds = (log_least, log_most)

-- the table's entry for a sum in that range, at most that for 13
module _ (s : ℕ) (low : 13 ≤ s) (high : s ≤ 31) where
  pub in_table : entry_at (s - 1) ≡ entry (s - 1)
  in_table = let small : s - 1 < 64 = omega arith in ap entry (mod-eq_of_lt small)

  pub entry_small : entry (s - 1) ≤ 1290555
  entry_small =
      let one : s - 1 + 1 ≡ s = omega arith in
      let all : 2 ^ 24 / s * s ≤ 2 ^ 24 = div-mul-le_self (2 ^ 24) s in
      let thirteen : 2 ^ 24 / s * 13 ≤ 2 ^ 24 / s * s = mul-le-mul (le_refl (2 ^ 24 / s)) low in
      rw one (omega (arith, all, thirteen))

-- The accumulator: bounded by the weights' total, not by each weight on its own.
module _ (w : Four) (high : total w ≤ 31) (p0 p1 p2 p3 : ℤ) (small : Small p0 p1 p2 p3) where
  unfoldable sum : ℤ
  sum = pos (total w / 2 - 1) +ℤ p0 *ℤ pos w.e0 +ℤ p1 *ℤ pos w.e1 +ℤ p2 *ℤ pos w.e2 +ℤ p3 *ℤ pos w.e3

  part : (q : ℕ) (p : ℤ) → mag p < 2 ^ 37 → Below (2 ^ 37 * q + 1) (p *ℤ pos q)
  part q p h = by_factor q {x = p} (le_refl q) (record { size = h })

  start : Below 16 (pos (total w / 2 - 1))
  start = record { size = omega (arith, high) }

  sum_below : Below (2 ^ 37 * 31 + 20) sum
  unfolding sum
  sum_below = at_most (omega (arith, high)) (plus (plus (plus (plus start (part w.e0 p0 small.small0)) (part w.e1 p1 small.small1)) (part w.e2 p2 small.small2)) (part w.e3 p3 small.small3))

  -- "none can wrap": the product is below 2^63
  pub product_below : 13 ≤ total w
      → Below (2 ^ 63) ((pos (total w / 2 - 1) +ℤ p0 *ℤ pos w.e0 +ℤ p1 *ℤ pos w.e1 +ℤ p2 *ℤ pos w.e2 +ℤ p3 *ℤ pos w.e3) *ℤ pos (entry (total w - 1)))
  unfolding sum
  product_below low = looser tt (by_factor 1290555 (entry_small (total w) low high) sum_below)

  pub average_below : 13 ≤ total w → Below (2 ^ 39) (average_by w p0 p1 p2 p3)
  unfolding sum
  average_below low = looser tt (shifted_down (2 ^ 24) (by_factor 1290555 (entry_small (total w) low high) sum_below))
