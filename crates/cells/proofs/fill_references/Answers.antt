-- `fill_references` meets its contract: the part from 16 on becomes the row.
use lib.ListN.{length}
use lib.Seq.{drop-drop}
use mathlib.Core.Path.{◌≡◌, sym, ◌∙◌}
use native.Mathlib.Omega.{arith}
use Prim.Native.Nat.{◌+◌, ◌-◌}
use Rattle.cells.proofs.fill_references.Goals as goal

pub returns-then-uses : goal.returns-then-uses
returns-then-uses c =
    let n = length c.args.references.now in
    let size : 16 + n - 16 ≡ n = omega arith in
    simp (sym c.uses.ensures ∙ c.if-uses.true) (rw (size, drop-drop n 16 c.args.cells.now, c.copy.ensures))
