-- What the machine's wrapping operations leave of words is `wrap` of the operation on whole numbers.
use lib.IntN.{ℤ, pos, negsuc, nat_abs, ◌+ℤ◌, ◌-ℤ◌}
use mathlib.Core.Path.{◌≡◌, ◌∙◌}
use mir.Facts.{to_z-of_z}
use mir.Syntax.{w32}
use mir.Val.{SFits, to_z, of_z}
use native.Mathlib.Omega.{arith}
use Prim.Native.Nat.{◌+◌, ◌-◌, ◌%◌}
use Rattle.std.proofs.Common.{rules}
use Rattle.std.proofs.lemmas.Int.{wraps}
use Rattle.integer.specs.Order.{magnitude}
use Rattle.integer.specs.Word.{wrap}

pub difference : {a b : ℤ} → SFits w32 a → SFits w32 b → to_z w32 ((of_z w32 a + (4294967296 - of_z w32 b)) % 4294967296) ≡ wrap (a -ℤ b)
difference f g = search (rules, wraps)

pub difference_of_sum : {a b c : ℤ} → SFits w32 a → SFits w32 b → SFits w32 c
    → to_z w32 (((of_z w32 a + of_z w32 b) % 4294967296 + (4294967296 - of_z w32 c)) % 4294967296) ≡ wrap (wrap (a +ℤ b) -ℤ c)
difference_of_sum f g h = search (rules, wraps)

-- the magnitude of -2^31 wraps
below : (z : ℤ) → SFits w32 z → nat_abs z % 4294967296 ≡ nat_abs z
below (pos n) f = omega (arith, f.sfits)
below (negsuc n) f = omega (arith, f.sfits)

pub absolute : {a r : ℤ} → SFits w32 a → SFits w32 r → r ≡ to_z w32 (nat_abs (to_z w32 (of_z w32 a))) → to_z w32 (of_z w32 r) ≡ wrap (magnitude a)
absolute {a} f g is = to_z-of_z g ∙ is ∙ (simp (to_z-of_z f, below a f))
