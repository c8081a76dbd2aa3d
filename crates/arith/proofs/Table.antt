-- The division lookup's rule at all of its entries, by one computation: the code's table is the list that antt makes from the rule.
use mathlib.Core.Path.{◌≡◌}
use native.Mathlib.Nat.{zero-lt-suc, mod-lt, div-le_self}
use Prim.Native.Nat.{ℕ, ◌+◌, ◌%◌, ◌^◌, ◌≤◌}
use lib.ListN.{get_or}
use Rattle.integer.specs.Fill.{tabulate}
use Rattle.integer.proofs.Fill.{tabulated}
use Rattle.arith.specs.Weights.{entry, entry_at}

pub looked_up : (index : ℕ) → get_or (tabulate entry 64) (index % 64) 0 ≡ entry_at index
looked_up index = tabulated entry 64 (index % 64) 0 (mod-lt index (zero-lt-suc 63))

pub entry_bound : (i : ℕ) → entry i ≤ 2 ^ 24
entry_bound i = div-le_self (2 ^ 24) (i + 1)
