-- What the loop of `unpack` keeps: session and lent words are what k steps lead to, and no length has changed.
use lib.IntN.{ℤ}
use lib.ListN.{length}
use mathlib.Core.List.{List}
use mathlib.Core.Path.{◌≡◌}
use Prim.Native.Nat.{ℕ, ◌≤◌}
use Rattle.unpack.specs.Steps.{Before, steps}

pub record Reached (count : ℕ) (records : List ℤ) (first here : Before) (k : ℕ) : Type 0 where
  pub within : k ≤ count
  pub at : here ≡ steps records first k
  pub plane_long : length here.plane ≡ length first.plane
  pub cells_long : length here.cells ≡ length first.cells
  pub memory_long : length here.memory ≡ length first.memory
