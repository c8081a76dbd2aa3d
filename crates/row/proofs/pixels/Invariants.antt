-- `pixels` meets its contract. The invariant: the row from here on ends as the whole row does.
use lib.ListN.{length}
use mathlib.Core.Path.{◌≡◌}
use Prim.Native.Nat.{◌-◌}
use Rattle.row.specs.Row.{pixels_from}
use Rattle.row.proofs.pixels.Given as goal

abbrev pub invariant-loop-k : goal.invariant-loop-k
invariant-loop-k l =
    (length l.contexts ≡ length l.residuals)
    × (pixels_from l.residuals l.references l.records l.each (length l.residuals - l.k) l.k l.session l.plane l.contexts l.cells l.memory
    ≡ pixels_from l.residuals l.references l.records l.each (length l.residuals) 0 l.initial.session l.initial.plane l.initial.contexts l.initial.cells l.initial.memory)
