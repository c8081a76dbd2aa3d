-- `fill_context` meets its contract: five differences, five stores.
use mathlib.Core.Path.{sym, ◌∙◌}
use mir.Syntax.{w32}
use mir.Val.{SFits}
use native.Mathlib.Omega.{arith}
use Rattle.cells.proofs.Words.{difference}
use Rattle.cells.proofs.fill_context.Goals as goal

pub returns-then-uses : goal.returns-then-uses
returns-then-uses c =
    let left : SFits w32 c.args.«data».left = record { sfits = omega arith } in
    let top : SFits w32 c.args.«data».top = record { sfits = omega arith } in
    let toptop : SFits w32 c.args.«data».toptop = record { sfits = omega arith } in
    let topleft : SFits w32 c.args.«data».topleft = record { sfits = omega arith } in
    let topright : SFits w32 c.args.«data».topright = record { sfits = omega arith } in
    let leftleft : SFits w32 c.args.«data».leftleft = record { sfits = omega arith } in
    simp (
      sym c.uses.ensures ∙ c.if-uses.true,
      difference left topleft,
      difference topleft top,
      difference top topright,
      difference top toptop,
      difference left leftleft,
    )
