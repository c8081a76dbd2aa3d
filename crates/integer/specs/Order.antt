-- Choice by a test, and what is chosen by order: the smaller and the larger of two whole numbers, and the magnitude.
use Rattle.std.specs.Prelude.{Bool, true, false, ℤ, pos, nat_abs}
use Rattle.std.specs.Int.Signed.{lt_z}

abbrev pub if : {A : Type 0} → Bool → A → A → A
if true a b = a
if false a b = b

abbrev pub smaller : ℤ → ℤ → ℤ
smaller a b = if (lt_z a b) a b

abbrev pub larger : ℤ → ℤ → ℤ
larger a b = if (lt_z a b) b a

abbrev pub magnitude : ℤ → ℤ
magnitude z = pos (nat_abs z)
