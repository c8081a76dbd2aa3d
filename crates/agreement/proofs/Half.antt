-- How deep the direct walk stands when the flat walk has read h records, so that h is half of a leaf's depth, rounded up.
use mathlib.Core.List.{List}
use mathlib.Core.Logic.{◌⊎◌, inl, inr}
use mathlib.Core.Path.{◌≡◌}
use native.Mathlib.Omega.{arith}
use Prim.Native.Nat.{ℕ, ◌+◌, ◌*◌, ◌/◌}
use lib.IntN.{ℤ}
use Rattle.nodes.specs.declared.Leaf.{Leaf}
use Rattle.validation.specs.Reach.{LeafAt}

module _ (words : List ℤ) where
  -- after h records: 2h steps deep, or one less at a leaf
  abbrev pub Half : ℕ → ℕ → ℕ → Type 0
  Half place depth hops = (depth ≡ 2 * hops) ⊎ ((depth + 1 ≡ 2 * hops) × ((l : Leaf) × LeafAt words place l))

  pub halved : (place depth hops : ℕ) → Half place depth hops → hops ≡ (depth + 1) / 2
  halved place depth hops (inl e) = omega arith
  halved place depth hops (inr w) = omega (arith, w.0)
