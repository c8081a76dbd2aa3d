-- Cells that are filled stay as many as they were.
use lib.IntN.{ℤ}
use lib.ListN.{length, take, drop, length-set, length-append, length-drop}
use lib.Seq.{length-take-le}
use mathlib.Core.Bool.{Bool, true, false}
use mathlib.Core.List.{List, ◌++◌}
use mathlib.Core.Path.{◌≡◌, refl, ◌∙◌}
use native.Mathlib.Omega.{arith}
use Prim.Native.Nat.{ℕ, ◌+◌, ◌≤◌}
use Rattle.cells.specs.Cells.{uses, start_cells, cells_needed, positioned, neighboured, graded, contexted, weighed, filled_cells}
use Rattle.integer.proofs.Fill.{tabulate_length}
use Rattle.integer.specs.Order.{if}
use Rattle.predict.specs.declared.neighbours.PredictionData.{PredictionData}

pub start_length : (channel stream : ℤ) (n : ℕ) → length (start_cells channel stream n) ≡ n
start_length channel stream n = simp length-set (tabulate_length {A = ℤ} _ n)

-- a group of cells that is set, or left
group_length : (t : Bool) (new old : List ℤ) → length new ≡ length old → length (if t new old) ≡ length old
group_length true new old same = same
group_length false new old same = refl

-- the reference row, where the cells hold it
copied_length : (t : Bool) (references cells : List ℤ) → if t (16 + length references) 16 ≤ length cells
    → length (if t (take 16 cells ++ (references ++ drop (16 + length references) cells)) cells) ≡ length cells
copied_length true references cells holds =
    simp (length-append, length-drop, length-take-le 16 cells (omega arith)) (omega arith)
copied_length false references cells holds = refl

module _ (mask x y : ℕ) (d : PredictionData) (property : ℤ) (references cells : List ℤ) where
  abbrev own : List ℤ
  own = weighed mask property (contexted mask d (graded mask d (neighboured mask d (positioned mask x y cells))))

  own_length : length own ≡ length cells
  own_length =
      group_length (uses mask 15 1) _ (contexted mask d (graded mask d (neighboured mask d (positioned mask x y cells)))) (simp length-set)
      ∙ group_length (uses mask 10 5) _ (graded mask d (neighboured mask d (positioned mask x y cells))) (simp length-set)
      ∙ group_length (uses mask 8 2) _ (neighboured mask d (positioned mask x y cells)) (simp length-set)
      ∙ group_length (uses mask 4 4) _ (positioned mask x y cells) (simp length-set)
      ∙ group_length (uses mask 2 2) _ cells (simp length-set)

  pub filled_cells_length : cells_needed mask (length references) ≤ length cells → length (filled_cells mask x y d property references cells) ≡ length cells
  filled_cells_length holds = copied_length (uses mask 16 16) references own (rw own_length holds) ∙ own_length
