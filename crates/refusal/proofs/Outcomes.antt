-- An answer is no refusal, equal answers are answers of equal values, and `?` passes a refusal on as it is.
use lib.Dec.{T}
use lib.IntN.{ℤ}
use mathlib.Core.Bool.{Bool, true, false}
use mathlib.Core.List.{List}
use mathlib.Core.Path.{◌≡◌, ap, sym, subst}
use Prim.Native.Nat.{ℕ}
use Rattle.std.specs.Prelude.{Result, Ok, Err, IsErrAnd}
use Rattle.std.specs.Result.{result_unwrap_or}
use Rattle.refusal.specs.Paper.{Outcome, gives, refuses, paper, said}
use Rattle.refusal.specs.declared.Refusal.{Refusal}

abbrev given : {A : Type 0} → A → Outcome A → A
given else (gives a) = a
given else (refuses number details) = else

abbrev is_given : {A : Type 0} → Outcome A → Bool
is_given (gives a) = true
is_given (refuses number details) = false

pub same_given : {A : Type 0} {a b : A} → gives a ≡ gives b → a ≡ b
same_given {A} {a} {b} e = ap (given a) e

pub no_refusal : {A : Type 0} {a : A} {number : ℕ} {details : List ℤ} → refuses number details ≡ gives a → ⊥
no_refusal {A} {a} {number} {details} e = subst (λ (t : Bool). T t) (sym (ap (λ (o : Outcome A). is_given o) e)) tt

-- what `?` answers where it leaves the function: `passed_on c.from_residual.result _ c.from_residual.ensures.1`
pub passed_on : {A : Type 0} (r : Result A Refusal) (e : Refusal) → IsErrAnd r (λ y. y ≡ e) → said r ≡ paper e
passed_on (Ok a) e h = absurd h
passed_on (Err y) e h = ap paper h

-- what is not refused is unwrapped
pub unwrapped : {A : Type 0} (r : Result A Refusal) (a else : A) → said r ≡ gives a → result_unwrap_or r else ≡ a
unwrapped (Ok x) a else e = same_given e
unwrapped (Err y) a else e = absurd (no_refusal e)
