-- `matuviso_fill_row` meets its promise. The invariant: the row from here on ends as the whole row does.
use lib.ListN.{length}
use mathlib.Core.Path.{◌≡◌}
use Prim.Native.Nat.{◌-◌, ◌/◌}
use Rattle.bench_tree.specs.Row.{row, row_from}
use Rattle.bench_tree.proofs.matuviso_fill_row.Given as goal

abbrev pub invariant-loop-x : goal.invariant-loop-x
invariant-loop-x l =
    row_from l.mask l.y l.«data» l.references (length l.«data» / 7 - l.x) l.x l.cells ≡ row l.mask l.y l.«data» l.references l.initial.cells
