-- `sums_around` meets its contract: all three positions lie in the lent words.
use mathlib.Core.Path.{◌≡◌}
use Prim.Native.Nat.{◌+◌, ◌*◌, ◌<◌}
use Rattle.weighted.specs.Memory.{positions, at_n, at_ne, at_nw, sums_read}
use Rattle.weighted.proofs.Halves.{n_there, ne_inside, ne_last, nw_inside, nw_first}
use Rattle.weighted.proofs.memory.sums_around.Goals as goal
use Rattle.weighted.proofs.memory.sums_around.Goals.{else-x-gt0, else-x-width, then-x-gt0, then-x-width}

pub returns : goal.returns
unfolding sums_read
returns c =
    -- where N is, NE and NW beside it
    let above : (c.previous_half.result + c.args.x ≡ at_n c.args.memory.now c.args.width c.args.x c.args.y) × (c.previous_half.result + c.args.x + 1 < 2 * positions c.args.width) =
    n_there c.args.memory.now c.args.width c.args.x c.args.y c.requires.1 c.previous_half.ensures in
    let beside : (c.if-x-width.ne ≡ at_ne c.args.memory.now c.args.width c.args.x c.args.y) × (c.if-x-width.ne < 2 * positions c.args.width) =
    let n = above in
    elim c.if-x-width.branch [ then-x-width w ↦ ne_inside c.args.memory.now c.args.width c.args.x c.args.y n w.if-x-width.true w.ne-is | else-x-width w ↦ ne_last c.args.memory.now c.args.width c.args.x c.args.y n w.if-x-width.false w.ne-is ] in
    let before_it : (c.if-x-gt0.nw ≡ at_nw c.args.memory.now c.args.width c.args.x c.args.y) × (c.if-x-gt0.nw < 2 * positions c.args.width) =
    let n = above in
    elim c.if-x-gt0.branch [ then-x-gt0 w ↦ nw_inside c.args.memory.now c.args.width c.args.x c.args.y n w.if-x-gt0.true w.nw-is | else-x-gt0 w ↦ nw_first c.args.memory.now c.args.width c.args.x c.args.y n w.if-x-gt0.false w.nw-is ] in
    let n = above.0 in
    let ne = beside.0 in
    let nw = before_it.0 in
    simp (
      simp (n, ne, nw) at c.add_three.ensures,
      simp (n, ne, nw) at c.add_three-2.ensures,
      simp (n, ne, nw) at c.add_three-3.ensures,
      simp (n, ne, nw) at c.add_three-4.ensures,
    )
