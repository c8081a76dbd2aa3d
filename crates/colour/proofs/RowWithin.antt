-- A row that is there lies inside the plane, and in whole rows it is there where its begin is: no division is needed.
use borrow.Author.Tests.{ltb-true, ltb-false, lt-ltb, le-ltb}
use lib.Dec.{leb, ltb, eqb}
use mathlib.Core.Bool.{Bool, true, false, ◌&&◌}
use mathlib.Core.Path.{◌≡◌, refl}
use native.Mathlib.Nat.{div-mul-le_self, div-add-mod', mul-le-mul_right}
use native.Mathlib.Omega.{arith}
use Prim.Native.Nat.{ℕ, suc, ◌+◌, ◌*◌, ◌/◌, ◌%◌, ◌≤◌, ◌<◌, ◌^◌}
use Rattle.integer.proofs.Tests.{and_right}
use Rattle.colour.specs.Rows.{is_row}

pub within : (size width y : ℕ) → is_row size width y ≡ true → y * width + width ≤ size
within size width y e =
    let below : y < size / width = ltb-true y (size / width) (and_right (leb 1 width && leb width 65536 && eqb (size % width) 0 && ltb y (2 ^ 30)) (ltb y (size / width)) e) in
    omega (arith, div-mul-le_self size width, mul-le-mul_right width below)

pub by_begin : (size width y : ℕ) → 1 ≤ width → size % width ≡ 0 → ltb (y * width) size ≡ ltb y (size / width)
by_begin size width y some whole = by (ltb y (size / width)) refl
  where
    by : (t : Bool) → ltb y (size / width) ≡ t → ltb (y * width) size ≡ t
    by true e =
        let below : suc y ≤ size / width = ltb-true y (size / width) e in
        lt-ltb (y * width) size (omega (arith, div-mul-le_self size width, mul-le-mul_right width below))
    by false e =
        let past : size / width ≤ y = ltb-false y (size / width) e in
        le-ltb (y * width) size (omega (arith, div-add-mod' size width, mul-le-mul_right width past))
