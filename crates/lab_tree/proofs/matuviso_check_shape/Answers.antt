-- `matuviso_check_shape` meets its promise: the library's verdict, told.
use borrow.Author.Tests.{lt-leb, le-leb}
use Rattle.told.proofs.Telling.{short, told_of}
use Rattle.lab_tree.proofs.matuviso_check_shape.Goals as goal

pub returns-then-told-lt5 : goal.returns-then-told-lt5
returns-then-told-lt5 c = short (lt-leb _ _ c.if-told-lt5.true)

pub returns : goal.returns
returns c =
    told_of (le-leb _ _ c.if-told-lt5.false) c.check_shape.ensures c.tell_done.ensures
