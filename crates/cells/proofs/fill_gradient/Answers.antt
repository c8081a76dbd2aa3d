-- `fill_gradient` meets its contract: cell 8 is taken from the old cell 9, before that is written.
use lib.IntN.{pos}
use lib.ListN.{get_or}
use mathlib.Core.Path.{sym, ◌∙◌}
use mir.Syntax.{w32}
use mir.Val.{SFits}
use native.Mathlib.Omega.{arith}
use Rattle.cells.proofs.Words.{difference, difference_of_sum}
use Rattle.cells.proofs.fill_gradient.Goals as goal

pub returns-then-uses : goal.returns-then-uses
returns-then-uses c =
    let left : SFits w32 c.args.«data».left = record { sfits = omega arith } in
    let top : SFits w32 c.args.«data».top = record { sfits = omega arith } in
    let topleft : SFits w32 c.args.«data».topleft = record { sfits = omega arith } in
    let old : SFits w32 (get_or c.args.cells.now 9 (pos 0)) = record { sfits = omega arith } in
    simp (sym c.uses.ensures ∙ c.if-uses.true, difference left old, difference_of_sum left top topleft)
