-- `fetch_inside` meets its contract: every cell that is read is there.
use lib.IntN.{pos}
use lib.ListN.{get_or}
use mir.Syntax.{w32}
use Prim.Native.Nat.{◌+◌, ◌-◌}
use Rattle.integer.proofs.Bounded.{held}
use Rattle.predict.proofs.Rows.{fetched_inside}
use Rattle.predict.proofs.neighbours.fetch_inside.Goals as goal

pub returns : goal.returns
returns c =
    simp (
      held w32 (get_or c.args.row.now (c.args.x - 1) (pos 0)) c.result-1.given,
      held w32 (get_or c.args.above.now c.args.x (pos 0)) c.result-2-1.given,
      held w32 (get_or c.args.above2.now c.args.x (pos 0)) c.result-3-1.given,
      held w32 (get_or c.args.above.now (c.args.x - 1) (pos 0)) c.result-4-1.given,
      held w32 (get_or c.args.above.now (c.args.x + 1) (pos 0)) c.result-5-1.given,
      held w32 (get_or c.args.row.now (c.args.x - 2) (pos 0)) c.result-6-1.given,
      held w32 (get_or c.args.above.now (c.args.x + 2) (pos 0)) c.result-7-1.given,
    )
    (fetched_inside c.args.row.now c.args.above.now c.args.above2.now c.args.x c.requires)
