-- The positions that are read and written: each lies in the lent words, and is the one that the code's tests lead to.
use borrow.Author.Tests.{lt-ltb, le-ltb}
use lib.Dec.{eqb}
use mathlib.Core.Bool.{Bool, true, false}
use mathlib.Core.List.{List}
use mathlib.Core.Path.{◌≡◌, ap, ◌∙◌}
use native.Mathlib.Omega.{arith}
use Prim.Native.Nat.{ℕ, ◌+◌, ◌-◌, ◌*◌, ◌%◌, ◌≤◌, ◌<◌}
use Rattle.integer.specs.Order.{if}
use Rattle.weighted.specs.Memory.{positions, current, previous, at_n, at_ne, at_nw}

one_half : (t : Bool) (n : ℕ) → (if t 0 n ≤ n) × (if t n 0 ≤ n)
one_half true n = omega arith
one_half false n = omega arith

-- column x of either half, and the next one of the half above
module _ (width x y : ℕ) (inside : x < width) {k : ℕ} where
  pub in_current : k ≡ current width y → k + x < 2 * positions width
  in_current e = omega (arith, one_half (eqb (y % 2) 0) (positions width))

  pub in_previous : k ≡ previous width y → k + x + 1 < 2 * positions width
  in_previous e = omega (arith, one_half (eqb (y % 2) 0) (positions width))

-- N, by the half above
pub n_there : (m : List ℕ) (width x y : ℕ) {k : ℕ} → x < width → k ≡ previous width y → (k + x ≡ at_n m width x y) × (k + x + 1 < 2 * positions width)
n_there m width x y inside e = (ap (λ (h : ℕ). h + x) e, in_previous width x y inside e)

-- N is at n; NE and NW by the tests of the code
module _ (m : List ℕ) (width x y : ℕ) {n k : ℕ} (there : (n ≡ at_n m width x y) × (n + 1 < 2 * positions width)) where
  pub ne_inside : x + 1 < width → k ≡ n + 1 → (k ≡ at_ne m width x y) × (k < 2 * positions width)
  ne_inside h e = (e ∙ rw (there.0, lt-ltb _ _ h), omega arith)

  pub ne_last : width ≤ x + 1 → k ≡ n → (k ≡ at_ne m width x y) × (k < 2 * positions width)
  ne_last h e = (e ∙ rw (there.0, le-ltb _ _ h), omega arith)

  pub nw_inside : 0 < x → k ≡ n - 1 → (k ≡ at_nw m width x y) × (k < 2 * positions width)
  nw_inside h e = (e ∙ rw (there.0, lt-ltb _ _ h), omega arith)

  pub nw_first : x ≤ 0 → k ≡ n → (k ≡ at_nw m width x y) × (k < 2 * positions width)
  nw_first h e = (e ∙ rw (there.0, le-ltb _ _ h), omega arith)
