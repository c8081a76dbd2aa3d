-- A row of pixels: what `matuviso_fill_row` answers and writes, from the library's own definitions.
use Rattle.std.specs.Prelude.{List, ◌≡◌, ℕ, zero, suc, ◌+◌, ◌*◌, ◌/◌, ℤ, pos, length, drop}
use Rattle.cells.specs.Cells.{outcome, filled_cells}
use Rattle.predict.specs.declared.neighbours.PredictionData.{PredictionData}
use Rattle.refusal.specs.Paper.{Outcome, gives, refuses, one_value}
use Rattle.told.specs.Told.{data_of}

-- seven words a pixel
abbrev pub neighbours_of : List ℤ → ℕ → PredictionData
neighbours_of d k = data_of (drop (7 * k) d)

-- how a row ends: 0 or a refusal's number, and the cells
pub record End : Type 0 where
  pub status : ℕ
  pub cells : List ℤ

abbrev pub stepped : Outcome Unit → List ℤ → End → End
stepped (gives done) cells next = next
stepped (refuses number details) cells next = record { status = number; cells = cells }

-- so many pixels from column x on
unfoldable pub row_from : ℕ → ℕ → List ℤ → List ℤ → ℕ → ℕ → List ℤ → End
row_from mask y d references zero x cells = record { status = 0; cells = cells }
row_from mask y d references (suc k) x cells =
    stepped
    (outcome mask x y (length references) (length cells))
    cells
    (row_from mask y d references k (x + 1) (filled_cells mask x y (neighbours_of d x) (pos 0) references cells))

abbrev pub row : ℕ → ℕ → List ℤ → List ℤ → List ℤ → End
row mask y d references cells = row_from mask y d references (length d / 7) 0 cells

pub record FillsRow (mask y : ℕ) (d references cells : List ℤ) (r : ℕ) (cells' : List ℤ) : Type 0 where
  pub answers : r ≡ (row mask y d references cells).status
  pub holds : cells' ≡ (row mask y d references cells).cells

pub fills_row_determined : (mask y : ℕ) (d references cells : List ℤ) {r s : ℕ} {a b : List ℤ}
    → FillsRow mask y d references cells r a → FillsRow mask y d references cells s b → (r ≡ s) × (a ≡ b)
fills_row_determined mask y d references cells p q = (one_value p.answers q.answers, one_value p.holds q.holds)
