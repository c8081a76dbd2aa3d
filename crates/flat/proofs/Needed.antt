-- The cells that a split record needs: each of its three properties has one.
use borrow.Author.Tests.{ltb-true, ltb-false}
use lib.Dec.{ltb}
use mathlib.Core.Bool.{Bool, true, false}
use mathlib.Core.Path.{◌≡◌, refl}
use native.Mathlib.Omega.{arith}
use Prim.Native.Nat.{ℕ, ◌≤◌, ◌<◌}
use Rattle.integer.specs.Order.{if}
use Rattle.flat.specs.FlatWalk.{most, cells_needed}
use Rattle.flat.specs.declared.records.FlatSplit.{FlatSplit}

either : (a b : ℕ) (t : Bool) → ltb a b ≡ t → (a ≤ if t b a) × (b ≤ if t b a)
either a b true e = (omega (arith, ltb-true a b e), omega arith)
either a b false e = (omega arith, omega (arith, ltb-false a b e))

chosen_below : (a b n : ℕ) (t : Bool) → a < n → b < n → if t b a < n
chosen_below a b n true p q = q
chosen_below a b n false p q = p

module _ (a b : ℕ) where
  pub at_least : (a ≤ most a b) × (b ≤ most a b)
  at_least = either a b (ltb a b) refl

  pub most_below : (n : ℕ) → a < n → b < n → most a b < n
  most_below n p q = chosen_below a b n (ltb a b) p q

pub all_have_cells : (s : FlatSplit) (n : ℕ) → cells_needed s ≤ n → (s.property < n) × (s.left_property < n) × (s.right_property < n)
all_have_cells s n h =
    let below = at_least s.left_property s.right_property in
    let all = at_least s.property (most s.left_property s.right_property) in
    (omega (arith, all.0), omega (arith, all.1, below.0), omega (arith, all.1, below.1))
