-- `copy` meets its contract. The loop's invariant: i words are copied, the rest are as they were.
use lib.IntN.{ℤ, pos}
use lib.ListN.{get_or}
use mathlib.Core.List.{List}
use mathlib.Core.Path.{◌≡◌}
use Prim.Native.Nat.{ℕ}
use Rattle.integer.specs.Fill.{filled}
use Rattle.cells.proofs.copy.Given as goal

abbrev cell : List ℤ → ℕ → ℤ
cell from k = get_or from k (pos 0)

abbrev pub invariant-loop-i : goal.invariant-loop-i
invariant-loop-i l = l.to ≡ filled (cell l.from) l.i l.initial.to
