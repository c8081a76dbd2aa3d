-- Module 9 of document 01, rows: a plane is packed rows of the width, and row y is that part of it.
use Rattle.std.specs.Prelude.{Bool, ◌&&◌, List, [], ◌∷◌, ◌≡◌, ℕ, ◌+◌, ◌*◌, ◌/◌, ◌%◌, ◌^◌, leb, ltb, eqb, ℤ, pos, length, take, drop, Result}
use Rattle.integer.specs.Order.{if}
use Rattle.refusal.specs.Paper.{Outcome, gives, refuses, said, one_result}
use Rattle.refusal.specs.declared.Refusal.{Refusal}

-- a width of 1..65,536, a whole number of rows, and y one of them and below 2^30
abbrev pub is_row : ℕ → ℕ → ℕ → Bool
is_row size width y = leb 1 width && leb width 65536 && eqb (size % width) 0 && ltb y (2 ^ 30) && ltb y (size / width)

-- the words of row y, none if it is refused
abbrev pub row_of : List ℤ → ℕ → ℕ → List ℤ
row_of plane width y = if (is_row (length plane) width y) (take width (drop (y * width) plane)) []

-- where row y begins, in bytes of the plane; a refused row is empty at its begin
abbrev pub row_start : ℕ → ℕ → ℕ → ℕ
row_start size width y = if (is_row size width y) (y * width * 4) 0

-- a part is row y of the plane: its words, and its place in memory, a block and an offset in it
pub record IsRow (plane : List ℤ) (place : ℕ × ℕ) (width y : ℕ) (part : List ℤ) (at : ℕ × ℕ) : Type 0 where
  pub words : part ≡ row_of plane width y
  pub begins : at ≡ (place.0, row_start (length plane) width y + place.1)

-- 11 if it is refused
abbrev pub row_outcome : List ℤ → ℕ → ℕ → Outcome Unit
row_outcome plane width y = if (is_row (length plane) width y) (gives tt) (refuses 11 (pos 0 ∷ []))

pub row_determined : {v : Outcome Unit} (r s : Result Unit Refusal) → said r ≡ v → said s ≡ v → r ≡ s
row_determined r s p q = one_result r s p q
