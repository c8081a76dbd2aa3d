-- `errors_around` meets its contract: all four positions lie in the lent words.
use borrow.Author.Tests.{lt-ltb, le-ltb}
use mathlib.Core.Path.{◌≡◌, refl, ◌∙◌}
use mir.Syntax.{w32}
use Prim.Native.Nat.{◌+◌, ◌*◌, ◌<◌}
use Rattle.integer.proofs.Bounded.{held}
use Rattle.weighted.specs.Memory.{positions, at_n, at_ne, errors_read}
use Rattle.weighted.proofs.Halves.{n_there, ne_inside, ne_last, nw_inside}
use Rattle.weighted.proofs.memory.errors_around.Goals as goal
use Rattle.weighted.proofs.memory.errors_around.Goals.{else-x-width, then-x-width}

pub returns-then-x-gt0 : goal.returns-then-x-gt0
unfolding errors_read
returns-then-x-gt0 c =
    -- where N is, and NE beside it
    let above : (c.previous_half.result + c.args.x ≡ at_n c.args.memory.now c.args.width c.args.x c.args.y) × (c.previous_half.result + c.args.x + 1 < 2 * positions c.args.width) =
    n_there c.args.memory.now c.args.width c.args.x c.args.y c.requires.1 c.previous_half.ensures in
    let beside : (c.if-x-width.ne ≡ at_ne c.args.memory.now c.args.width c.args.x c.args.y) × (c.if-x-width.ne < 2 * positions c.args.width) =
    let n = above in
    elim c.if-x-width.branch [ then-x-width w ↦ ne_inside c.args.memory.now c.args.width c.args.x c.args.y n w.if-x-width.true w.ne-is | else-x-width w ↦ ne_last c.args.memory.now c.args.width c.args.x c.args.y n w.if-x-width.false w.ne-is ] in
    let inside = c.if-x-gt0.true in
    let n = above in
    let nw = nw_inside c.args.memory.now c.args.width c.args.x c.args.y n inside refl in
    rw (
      held w32 c.error_at.result c.error_at.type_inv ∙ c.error_at.ensures,
      held w32 c.error_at-then-x-gt0.result c.error_at-then-x-gt0.type_inv ∙ c.error_at-then-x-gt0.ensures,
      held w32 c.error_at-then-x-gt0-2.result c.error_at-then-x-gt0-2.type_inv ∙ c.error_at-then-x-gt0-2.ensures,
      held w32 c.error_at-then-x-gt0-3.result c.error_at-then-x-gt0-3.type_inv ∙ c.error_at-then-x-gt0-3.ensures,
      c.current_half.ensures,
      nw.0,
      n.0,
      beside.0,
      lt-ltb _ _ inside,
    )

pub returns-else-x-gt0 : goal.returns-else-x-gt0
unfolding errors_read
returns-else-x-gt0 c =
    -- where N is, and NE beside it
    let above : (c.previous_half.result + c.args.x ≡ at_n c.args.memory.now c.args.width c.args.x c.args.y) × (c.previous_half.result + c.args.x + 1 < 2 * positions c.args.width) =
    n_there c.args.memory.now c.args.width c.args.x c.args.y c.requires.1 c.previous_half.ensures in
    let beside : (c.if-x-width.ne ≡ at_ne c.args.memory.now c.args.width c.args.x c.args.y) × (c.if-x-width.ne < 2 * positions c.args.width) =
    let n = above in
    elim c.if-x-width.branch [ then-x-width w ↦ ne_inside c.args.memory.now c.args.width c.args.x c.args.y n w.if-x-width.true w.ne-is | else-x-width w ↦ ne_last c.args.memory.now c.args.width c.args.x c.args.y n w.if-x-width.false w.ne-is ] in
    let n = above in
    rw (
      held w32 c.error_at-error.result c.error_at-error.type_inv ∙ c.error_at-error.ensures,
      held w32 c.error_at-else-x-gt0.result c.error_at-else-x-gt0.type_inv ∙ c.error_at-else-x-gt0.ensures,
      n.0,
      beside.0,
      le-ltb _ _ c.if-x-gt0.false,
    )
