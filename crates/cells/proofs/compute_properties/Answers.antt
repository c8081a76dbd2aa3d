-- `compute_properties` meets its promise: past both tests the groups are filled.
use borrow.Author.Tests.{le-ltb}
use lib.IntN.{ℤ}
use lib.ListN.{length}
use mathlib.Core.Bool.{true}
use mathlib.Core.List.{List}
use mathlib.Core.Path.{◌≡◌, sym, ap, ◌∙◌}
use mir.Facts.{to_z-of_z}
use Rattle.refusal.specs.Paper.{Outcome, gives}
use Rattle.cells.specs.Cells.{in_domain, cells_needed, outcome, filled_cells, after}
use Rattle.cells.proofs.compute_properties.Goals as goal

pub returns-clause-holds : goal.returns-clause-holds
returns-clause-holds c =
    let references : List ℤ = c.args.references.now in
    let cells : List ℤ = c.args.cells.now in
    let is_needed : cells_needed c.args.mask (length references) ≡ c.cells_needed-needed.result = sym c.cells_needed-needed.ensures in
    let inside : in_domain c.args.x c.args.y c.cells_needed-needed.result ≡ true = sym c.in_domain.ensures ∙ c.if-not-in_domain.false in
    let passed : outcome c.args.mask c.args.x c.args.y (length references) (length cells) ≡ gives tt = simp (is_needed, inside, le-ltb _ _ c.if-cells-needed.false) in
    let filled = simp (to_z-of_z c.ranges.wp_property) at c.fill_all.ensures in
    filled ∙ sym (ap (λ (o : Outcome Unit). after (filled_cells c.args.mask c.args.x c.args.y c.args.«data» c.args.wp_property references cells) o cells) passed)
