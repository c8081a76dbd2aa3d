-- `matuviso_validate_tree` meets its promise: the library's verdict, told, and the work area as the library leaves it.
use borrow.Author.Tests.{lt-leb, le-leb}
use Rattle.told.proofs.Telling.{short, told_of}
use Rattle.lab_tree.proofs.matuviso_validate_tree.Goals as goal

pub returns-then-told-lt5 : goal.returns-then-told-lt5
returns-then-told-lt5 c = record { tells = short (lt-leb _ _ c.if-told-lt5.true); holds = simp (lt-leb _ _ c.if-told-lt5.true) }

pub returns : goal.returns
returns c =
    let long = le-leb _ _ c.if-told-lt5.false in
    record {
      tells = told_of long c.validate_tree.ensures.answers c.tell_done.ensures;
      holds = simp long c.validate_tree.ensures.leaves;
    }
