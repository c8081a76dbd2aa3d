-- Stores in a row from the front, as one list.
use mathlib.Core.List.{List, [], ◌∷◌}
use mathlib.Core.Path.{◌≡◌, refl, ap}
use native.Mathlib.Omega.{arith}
use Prim.Native.Nat.{◌≤◌}
use lib.ListN.{length, set, drop}

module _ {A : Type 0} where
  one : (a : A) (w : List A) → 1 ≤ length w → set w 0 a ≡ a ∷ drop 1 w
  one a [] h = absurd (omega arith)
  one a (_ ∷ w) h = refl

  pub two : (a b : A) (w : List A) → 2 ≤ length w → set (set w 0 a) 1 b ≡ a ∷ b ∷ drop 2 w
  two a b [] h = absurd (omega arith)
  two a b (_ ∷ w) h = ap (λ (t : List A). a ∷ t) (one b w (omega arith))

  three : (a b c : A) (w : List A) → 3 ≤ length w → set (set (set w 0 a) 1 b) 2 c ≡ a ∷ b ∷ c ∷ drop 3 w
  three a b c [] h = absurd (omega arith)
  three a b c (_ ∷ w) h = ap (λ (t : List A). a ∷ t) (two b c w (omega arith))

  pub four : (a b c d : A) (w : List A) → 4 ≤ length w → set (set (set (set w 0 a) 1 b) 2 c) 3 d ≡ a ∷ b ∷ c ∷ d ∷ drop 4 w
  four a b c d [] h = absurd (omega arith)
  four a b c d (_ ∷ w) h = ap (λ (t : List A). a ∷ t) (three b c d w (omega arith))

  pub five : (a b c d e : A) (w : List A) → 5 ≤ length w
      → set (set (set (set (set w 0 a) 1 b) 2 c) 3 d) 4 e ≡ a ∷ b ∷ c ∷ d ∷ e ∷ drop 5 w
  five a b c d e [] h = absurd (omega arith)
  five a b c d e (_ ∷ w) h = ap (λ (t : List A). a ∷ t) (four b c d e w (omega arith))
