-- `guess_all` meets its contract: a turn writes one guess more.
use Rattle.std.proofs.Common.{◌≡◌, ◌<◌, arith, length, sym, w64, to_z, of_z}
use Rattle.integer.proofs.Fill.{filled_none, filled_more}
use Rattle.bench.proofs.guess_all.Goals as goal

pub loop-x-init : goal.loop-x-init
loop-x-init c = sym (filled_none _ _)

pub loop-x-preserved : goal.loop-x-preserved
loop-x-preserved c =
    let below : c.loop-x.x < length c.args.guesses.now = omega arith in
    let wrote : to_z w64 (of_z w64 c.guess_at.result) ≡ c.guess_at.result = grind arith in
    rw (wrote, c.guess_at.ensures, c.loop-x.invariant) (filled_more _ _ _ below)
