-- `put_words` meets its contract: a word more is put where it belongs.
use lib.ListN.{length}
use mathlib.Core.Path.{sym}
use mir.Syntax.{w32}
use native.Mathlib.Omega.{arith}
use Prim.Native.Nat.{◌<◌}
use Rattle.integer.proofs.Bounded.{held}
use Rattle.integer.proofs.Fill.{filled_none, filled_more}
use Rattle.unpack.proofs.input.put_words.Goals as goal

pub loop-k-init : goal.loop-k-init
loop-k-init c = sym (filled_none _ _)

pub loop-k-preserved : goal.loop-k-preserved
loop-k-preserved c =
    let below : c.loop-k.k < length c.args.words.now = omega arith in
    rw (held w32 c.word.result c.word.type_inv, c.word.ensures, c.loop-k.invariant) (filled_more _ _ _ below)
