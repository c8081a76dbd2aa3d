-- `fill_neighbours` meets its contract: four stores in a row.
use mathlib.Core.Path.{sym, ◌∙◌}
use mir.Facts.{to_z-of_z}
use mir.Syntax.{w32}
use mir.Val.{SFits}
use native.Mathlib.Omega.{arith}
use Rattle.cells.proofs.Words.{absolute}
use Rattle.cells.proofs.fill_neighbours.Goals as goal

pub returns-then-uses : goal.returns-then-uses
returns-then-uses c =
    let top : SFits w32 c.args.«data».top = record { sfits = omega arith } in
    let left : SFits w32 c.args.«data».left = record { sfits = omega arith } in
    let four = absolute top (record { sfits = c.wrapping_abs.type_inv }) c.wrapping_abs.ensures in
    let five = absolute left (record { sfits = c.wrapping_abs-then-uses.type_inv }) c.wrapping_abs-then-uses.ensures in
    simp (sym c.uses.ensures ∙ c.if-uses.true, four, five, to_z-of_z top, to_z-of_z left)
