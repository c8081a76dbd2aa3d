-- `walk` meets its contract: past the tests of an ask, the cells are filled.
use mathlib.Core.Path.{ap, ◌∙◌}
use mir.Syntax.{w32}
use native.Mathlib.Omega.{arith}
use Rattle.cells.specs.Cells.{after, filled_cells}
use Rattle.integer.proofs.Bounded.{held}
use Rattle.refusal.specs.Paper.{Outcome}
use Rattle.session.specs.Session.{column, line, pixel_cells}
use Rattle.session.proofs.Session.walk.Goals as goal

pub returns-clause-cells_are : goal.returns-clause-cells_are
unfolding pixel_cells
returns-clause-cells_are c =
    let s = c.args in
    let filled = simp (held w32 s.prediction.property (omega arith)) at c.compute_properties.ensures.holds in
    filled ∙ ap (λ (o : Outcome Unit). after (filled_cells s.self.now.mask (column s.self.now) (line s.self.now) s.«data» s.prediction.property s.references.now s.cells.now) o s.cells.now) c.requires
