-- `matuviso_compute_properties` meets its promise: the library's filling for the seven words, told.
use borrow.Author.Tests.{lt-leb, le-leb}
use lib.Dec.{leb}
use lib.ListN.{length}
use mathlib.Core.Bool.{false, ◌&&◌}
use mathlib.Core.Path.{◌≡◌}
use mir.Facts.{to_z-of_z}
use Rattle.told.specs.Told.{room}
use Rattle.told.proofs.Telling.{short, told_of}
use Rattle.lab_tree.proofs.matuviso_compute_properties.Goals as goal
use Rattle.lab_tree.proofs.matuviso_compute_properties.Goals.{then-data-lt7-via-then-data-lt7, then-data-lt7-via-else-data-lt7+then-told-lt5}

pub returns-then-data-lt7 : goal.returns-then-data-lt7
returns-then-data-lt7 c =
    let is_short : (leb 7 (length c.args.«data».now) && room c.args.told.now) ≡ false =
    elim c.then-data-lt7.branch [
      | then-data-lt7-via-then-data-lt7 w ↦ simp (lt-leb _ _ w.if-data-lt7.true)
      | then-data-lt7-via-else-data-lt7+then-told-lt5 w ↦ simp (le-leb _ _ w.if-data-lt7.false, lt-leb _ _ w.if-told-lt5.true)
    ] in
    record { tells = short is_short; holds = simp is_short }

pub returns : goal.returns
returns c =
    let neighbours = le-leb _ _ c.if-data-lt7.false in
    let told = le-leb _ _ c.if-told-lt5.false in
    record {
      tells = told_of (simp (neighbours, told)) c.compute_properties-filled.ensures.answers c.tell_done.ensures;
      holds = simp (neighbours, told) (simp (c.take_seven.ensures, to_z-of_z c.ranges.wp_property) at c.compute_properties-filled.ensures.holds);
    }
