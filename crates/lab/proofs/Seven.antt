-- Seven stores in a row, as one list.
use mathlib.Core.List.{List, [], ◌∷◌}
use mathlib.Core.Path.{◌≡◌, refl}
use native.Mathlib.Omega.{arith}
use Prim.Native.Nat.{◌≤◌}
use lib.IntN.{ℤ}
use lib.ListN.{length, set, drop}

pub stored : (a b c d e f g : ℤ) (w : List ℤ) → 7 ≤ length w
    → set (set (set (set (set (set (set w 0 a) 1 b) 2 c) 3 d) 4 e) 5 f) 6 g ≡ a ∷ b ∷ c ∷ d ∷ e ∷ f ∷ g ∷ drop 7 w
stored a b c d e f g [] h = absurd (omega arith)
stored a b c d e f g (_ ∷ []) h = absurd (omega arith)
stored a b c d e f g (_ ∷ _ ∷ []) h = absurd (omega arith)
stored a b c d e f g (_ ∷ _ ∷ _ ∷ []) h = absurd (omega arith)
stored a b c d e f g (_ ∷ _ ∷ _ ∷ _ ∷ []) h = absurd (omega arith)
stored a b c d e f g (_ ∷ _ ∷ _ ∷ _ ∷ _ ∷ []) h = absurd (omega arith)
stored a b c d e f g (_ ∷ _ ∷ _ ∷ _ ∷ _ ∷ _ ∷ []) h = absurd (omega arith)
stored a b c d e f g (_ ∷ _ ∷ _ ∷ _ ∷ _ ∷ _ ∷ _ ∷ w) h = refl
