-- What a loop of `weigh_all` keeps.
use lib.IntN.{ℤ}
use mathlib.Core.List.{List}
use mathlib.Core.Path.{◌≡◌}
use Prim.Native.Nat.{ℕ, ◌<◌}
use Rattle.history.specs.Calls.{Words, calls}
use Rattle.weighted.specs.declared.state.WeightedState.{WeightedState}
use Rattle.bench_weighted.specs.Weighed.{neighbours_of, value_of, answers_to}

pub record Reached (words plane : List ℤ) (m₀ : List ℕ) (a₀ : List ℤ) (s₀ : WeightedState) (m : List ℕ) (a : List ℤ) (s : WeightedState) (k : ℕ) : Type 0 where
  pub read : (j : ℕ) → j < k → Words (neighbours_of words j)
  pub state_is : s ≡ (calls s₀.header s₀.width m₀ (neighbours_of words) (value_of plane) k).state
  pub memory_is : m ≡ (calls s₀.header s₀.width m₀ (neighbours_of words) (value_of plane) k).memory
  pub answers_are : a ≡ answers_to s₀.header s₀.width words plane k a₀
