-- Laws of a row's cells.
use mathlib.Core.List.{List, [], ◌∷◌}
use mathlib.Core.Path.{◌≡◌, refl}
use Prim.Native.Nat.{ℕ, zero, suc, ◌+◌, ◌-◌, ◌<◌, ◌≤◌}
use native.Mathlib.Nat.{not-suc-le-zero, le_of_suc-le-suc}
use lib.IntN.{ℤ, pos}
use lib.ListN.{length, get_or}
use native.Mathlib.Omega.{arith}
use borrow.Author.Tests.{le-leb}
use Rattle.predict.specs.Neighbours.{Inside, fetched}

-- a cell that is there does not depend on the fallback
pub cell_there : {A : Type 0} (row : List A) (k : ℕ) (d e : A) → k < length row → get_or row k d ≡ get_or row k e
cell_there [] k d e h = absurd (not-suc-le-zero h)
cell_there (x ∷ row) zero d e h = refl
cell_there (x ∷ row) (suc k) d e h = cell_there row k d e (le_of_suc-le-suc h)

-- where all seven are there, each is the cell that it is named after
pub fetched_inside : (row above above2 : List ℤ) (x : ℕ) → Inside row above above2 x
    → record {
      left = get_or row (x - 1) (pos 0);
      top = get_or above x (pos 0);
      toptop = get_or above2 x (pos 0);
      topleft = get_or above (x - 1) (pos 0);
      topright = get_or above (x + 1) (pos 0);
      leftleft = get_or row (x - 2) (pos 0);
      toprightright = get_or above (x + 2) (pos 0);
    } ≡ fetched row above above2 x
unfolding fetched
fetched_inside row above above2 x all =
    let one : 1 ≤ x = omega arith in
    simp (le-leb 1 x one, le-leb 2 x all.begun)
    (cc (
      cell_there row (x - 1) (pos 0) (get_or above 0 (pos 0)) (omega arith),
      cell_there above x (pos 0) (get_or row (x - 1) (get_or above 0 (pos 0))) (omega arith),
      cell_there above2 x (pos 0) (get_or above x (get_or row (x - 1) (get_or above 0 (pos 0)))) (omega arith),
      cell_there above (x - 1) (pos 0) (get_or row (x - 1) (get_or above 0 (pos 0))) (omega arith),
      cell_there above (x + 1) (pos 0) (get_or above x (get_or row (x - 1) (get_or above 0 (pos 0)))) (omega arith),
      cell_there row (x - 2) (pos 0) (get_or row (x - 1) (get_or above 0 (pos 0))) (omega arith),
      cell_there above (x + 2) (pos 0) (get_or above (x + 1) (get_or above x (get_or row (x - 1) (get_or above 0 (pos 0))))) (omega arith),
    ))
