-- `shifted` meets its promise: the library's answer for the seven words, where there are seven.
use borrow.Author.Tests.{le-ltb}
use mir.Facts.{to_z-of_z}
use Rattle.lab.proofs.shifted.Goals as goal

pub returns : goal.returns
returns c =
    simp (le-ltb _ _ c.if-data-lt7.false)
    (simp (c.take_seven.ensures, to_z-of_z c.ranges.cur) at c.update_for_interior_row.ensures)
