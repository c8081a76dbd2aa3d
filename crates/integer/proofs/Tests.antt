-- Tests joined by "and", tests turned round, and numbers that no test has taken.
use lib.Dec.{T}
use mathlib.Core.Bool.{Bool, true, false, ◌&&◌, not}
use mathlib.Core.Path.{◌≡◌, refl, sym, subst}
use native.Mathlib.Omega.{arith}
use Prim.Native.Nat.{ℕ, suc, ◌≤◌}

pub and_left : (a b : Bool) → (a && b) ≡ true → a ≡ true
and_left true b e = refl
and_left false b e = e

pub and_right : (a b : Bool) → (a && b) ≡ true → b ≡ true
and_right true b e = e
and_right false b e = absurd (subst (λ (t : Bool). T t) (sym e) tt)

pub both : {a b : Bool} → a ≡ true → b ≡ true → (a && b) ≡ true
both e f = rw (e, f)

-- where all before it hold, the last decides
pub last_decides : {a b : Bool} → a ≡ true → b ≡ (a && b)
last_decides e = rw e

-- a test that was turned round
pub was_false : (a : Bool) → not a ≡ true → a ≡ false
was_false true e = sym e
was_false false e = refl

pub was_true : (a : Bool) → not a ≡ false → a ≡ true
was_true true e = refl
was_true false e = sym e

-- what is at least k and not k lies past it
pub past : {k n : ℕ} → k ≤ n → (n ≡ k → ⊥) → suc k ≤ n
past h differs = omega (arith, differs)
