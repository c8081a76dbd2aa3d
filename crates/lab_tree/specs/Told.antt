-- What the C functions of trees and cells answer and write, from the library's own definitions: 0, or a refusal's number with its
-- details as the first words of the list `told`. A list that is too short is 8, before all else, and nothing is told.
use Rattle.std.specs.Prelude.{◌&&◌, List, [], ◌∷◌, ◌≡◌, ℕ, leb, ℤ, pos, length}
use Rattle.cells.specs.Cells.{outcome, after, filled_cells}
use Rattle.integer.specs.Order.{if}
use Rattle.nodes.specs.Mask.{mask_of}
use Rattle.refusal.specs.Paper.{Outcome, one_value}
use Rattle.told.specs.Told.{Tells, nothing, room, data_of, tells_determined}
use Rattle.validation.specs.Shape.{shape}
use Rattle.validation.specs.Validation.{validation, area_after}

-- ---- a tree

abbrev pub MaskTold : List ℤ → List ℤ → ℕ → List ℤ → Type 0
MaskTold words = λ told r told'. Tells (λ mask. pos mask ∷ []) (room told) (mask_of words) told r told'

abbrev pub ShapeTold : List ℤ → List ℤ → ℕ → List ℤ → Type 0
ShapeTold words = λ told r told'. Tells nothing (room told) (shape words) told r told'

pub record ValidTold (words work told : List ℤ) (r : ℕ) (work' told' : List ℤ) : Type 0 where
  pub tells : Tells nothing (room told) (validation words (length work)) told r told'
  pub holds : work' ≡ if (room told) (area_after words work) work

-- ---- cells

-- a position or a length (11), then the cells (10)
abbrev pub filling : ℕ → ℕ → ℕ → List ℤ → List ℤ → Outcome Unit
filling mask x y references cells = outcome mask x y (length references) (length cells)

pub record FillTold (mask x y : ℕ) (d : List ℤ) (property : ℤ) (references cells told : List ℤ) (r : ℕ) (cells' told' : List ℤ) : Type 0 where
  pub tells : Tells nothing (leb 7 (length d) && room told) (filling mask x y references cells) told r told'
  pub holds : cells' ≡ if (leb 7 (length d) && room told) (after (filled_cells mask x y (data_of d) property references cells) (filling mask x y references cells) cells) cells

-- ---- determinacy

pub valid_determined : (words work told : List ℤ) {r s : ℕ} {work' work'' told' told'' : List ℤ}
    → ValidTold words work told r work' told' → ValidTold words work told s work'' told'' → (r ≡ s) × (told' ≡ told'') × (work' ≡ work'')
valid_determined words work told p q =
    let same = tells_determined nothing (room told) _ told p.tells q.tells in
    (same.0, same.1, one_value p.holds q.holds)

pub fill_determined : (mask x y : ℕ) (d : List ℤ) (property : ℤ) (references cells told : List ℤ) {r s : ℕ} {cells' cells'' told' told'' : List ℤ}
    → FillTold mask x y d property references cells told r cells' told' → FillTold mask x y d property references cells told s cells'' told'' → (r ≡ s) × (told' ≡ told'') × (cells' ≡ cells'')
fill_determined mask x y d property references cells told p q =
    let same = tells_determined nothing (leb 7 (length d) && room told) _ told p.tells q.tells in
    (same.0, same.1, one_value p.holds q.holds)
