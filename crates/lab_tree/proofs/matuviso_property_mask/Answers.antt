-- `matuviso_property_mask` meets its promise: the library's mask as the first word, or its refusal told.
use borrow.Author.Tests.{lt-leb, le-leb}
use lib.IntN.{pos}
use mir.Facts.{to_z_pos}
use mir.Syntax.{w64}
use native.Mathlib.Omega.{arith}
use Prim.Native.Nat.{◌<◌, ◌^◌}
use Rattle.told.proofs.Telling.{one, short, given, refused}
use Rattle.lab_tree.proofs.matuviso_property_mask.Goals as goal

pub returns-then-told-lt5 : goal.returns-then-told-lt5
returns-then-told-lt5 c = short (lt-leb _ _ c.if-told-lt5.true)

pub returns-in-Ok : goal.returns-in-Ok
returns-in-Ok c =
    let small : c.in-Ok.mask < 2 ^ 63 = omega arith in
    given (le-leb _ _ c.if-told-lt5.false) c.in-Ok.ensures
    (simp (to_z_pos w64 small) (one (pos c.in-Ok.mask) c.args.told.now c.if-told-lt5.false))

pub returns-in-Err : goal.returns-in-Err
returns-in-Err c = refused c.in-Err.refusal (le-leb _ _ c.if-told-lt5.false) c.in-Err.ensures c.tell.ensures
