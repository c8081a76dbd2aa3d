-- Place after place: what one node more says of the first wide offset.
use lib.IntN.{ℤ}
use mathlib.Core.List.{List}
use mathlib.Core.Path.{◌≡◌}
use native.Mathlib.Decide.{dec_lt}
use native.Mathlib.Omega.{arith}
use Prim.Native.Nat.{ℕ, zero, suc, ◌≤◌, ◌<◌}
use Rattle.nodes.specs.Nodes.{node_at}
use Rattle.refusal.specs.Paper.{gives, refuses}
use Rattle.flatten.specs.Offsets.{offset_of, first_wide}

module _ (words : List ℤ) where
  pub next_wide : (place : ℕ) → first_wide words place ≡ gives tt → first_wide words (suc place) ≡ offset_of (node_at words place) place
  unfolding first_wide
  next_wide place e = rw e

  -- the lowest counts
  pub wide_stays : (k n : ℕ) {number : ℕ} {details : List ℤ} → first_wide words k ≡ refuses number details → k ≤ n → first_wide words n ≡ refuses number details
  unfolding first_wide
  wide_stays k zero e h = let is : k ≡ 0 = omega arith in rw is at e
  wide_stays k (suc n) {number} {details} e h = last (wide_stays k n e) (dec_lt n k)
    where
      last : (k ≤ n → first_wide words n ≡ refuses number details) → Dec (n < k) → first_wide words (suc n) ≡ refuses number details
      last before (yes l) = let is : k ≡ suc n = omega arith in rw is at e
      last before (no l) = rw (before (omega arith))
