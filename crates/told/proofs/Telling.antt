-- What is told of an outcome: a refusal's number and details, or nothing where a list is too short.
use lib.IntN.{ℤ}
use lib.ListN.{length, set, drop}
use mathlib.Core.Bool.{Bool, true, false}
use mathlib.Core.List.{List, [], ◌∷◌}
use mathlib.Core.Path.{◌≡◌, refl, sym}
use native.Mathlib.Omega.{arith}
use Prim.Native.Nat.{ℕ, ◌≤◌}
use Rattle.refusal.specs.Paper.{Outcome, gives, number_of, details_of, paper}
use Rattle.refusal.specs.declared.Refusal.{Refusal}
use Rattle.told.specs.Told.{Tells, begun}

-- ---- stores in a row from the front, as one list

pub one : (a : ℤ) (w : List ℤ) → 5 ≤ length w → set w 0 a ≡ a ∷ drop 1 w
one a [] h = absurd (omega arith)
one a (_ ∷ w) h = refl

pub four : (a b c d : ℤ) (w : List ℤ) → 5 ≤ length w → set (set (set (set w 0 a) 1 b) 2 c) 3 d ≡ a ∷ b ∷ c ∷ d ∷ drop 4 w
four a b c d [] h = absurd (omega arith)
four a b c d (_ ∷ []) h = absurd (omega arith)
four a b c d (_ ∷ _ ∷ []) h = absurd (omega arith)
four a b c d (_ ∷ _ ∷ _ ∷ []) h = absurd (omega arith)
four a b c d (_ ∷ _ ∷ _ ∷ _ ∷ w) h = refl

-- ---- from an outcome to what is told of it

module _ {A : Type 0} {tells : A → List ℤ} {o : Outcome A} {w : List ℤ} where
  pub short : {long : Bool} → long ≡ false → Tells tells long o w 8 w
  short e = record { answers = simp e; holds = simp e }

  pub given : {long : Bool} {a : A} {w' : List ℤ} → long ≡ true → gives a ≡ o → w' ≡ begun (tells a) w → Tells tells long o w 0 w'
  given e is w_is = record { answers = simp (e, sym is); holds = simp (e, sym is) w_is }

  pub refused : (refusal : Refusal) {long : Bool} {r : ℕ} {w' : List ℤ} → long ≡ true → paper refusal ≡ o
      → (r ≡ number_of refusal) × (w' ≡ begun (details_of refusal) w) → Tells tells long o w r w'
  refused refusal e is told = record { answers = simp (e, sym is) told.0; holds = simp (e, sym is) told.1 }

  -- told of an outcome that the library promises to be this one
  pub told_of : {long : Bool} {said : Outcome A} {r : ℕ} {w' : List ℤ} → long ≡ true → said ≡ o → Tells tells true said w r w' → Tells tells long o w r w'
  told_of e is t = record { answers = simp (e, sym is) t.answers; holds = simp (e, sym is) t.holds }
