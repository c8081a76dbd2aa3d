-- One pixel of a row: the row goes on from the filled cells, or ends at the refusal.
use lib.IntN.{ℤ, pos}
use lib.ListN.{length}
use mathlib.Core.List.{List}
use mathlib.Core.Path.{◌≡◌, ap, sym, ◌∙◌}
use native.Mathlib.Omega.{arith}
use Prim.Native.Nat.{ℕ, suc, ◌+◌, ◌-◌, ◌<◌}
use Rattle.cells.specs.Cells.{outcome, filled_cells, after}
use Rattle.refusal.specs.Paper.{Outcome, gives, number_of, said}
use Rattle.std.proofs.Common.{Result, Ok, Err}
use Rattle.refusal.specs.declared.Refusal.{Refusal}
use Rattle.bench_tree.specs.Row.{neighbours_of, row_from}

module _ (mask y : ℕ) (d references cells : List ℤ) (n x : ℕ) (below : x < n) where
  left : n - x ≡ suc (n - (x + 1))
  left = omega arith

  abbrev filling : Outcome Unit
  filling = outcome mask x y (length references) (length cells)

  abbrev fill : List ℤ
  fill = filled_cells mask x y (neighbours_of d x) (pos 0) references cells

  module _ (r : Result Unit Refusal) (cells' : List ℤ) (answers : said r ≡ filling) (holds : cells' ≡ after fill filling cells) where
    pub goes_on : {done : Unit} → r ≡ Ok done → row_from mask y d references (n - x) x cells ≡ row_from mask y d references (n - (x + 1)) (x + 1) cells'
    unfolding row_from
    goes_on done =
        let o : filling ≡ gives tt = sym answers ∙ ap said done in
        let filled : cells' ≡ fill = holds ∙ ap (λ (o : Outcome Unit). after fill o cells) o in
        rw (left, o, filled)

    pub ends : (refusal : Refusal) → r ≡ Err refusal → row_from mask y d references (n - x) x cells ≡ record { status = number_of refusal; cells = cells' }
    unfolding row_from
    ends refusal refused =
        let o = sym answers ∙ ap said refused in
        let kept : cells' ≡ cells = holds ∙ ap (λ (o : Outcome Unit). after fill o cells) o in
        rw (left, o, kept)
