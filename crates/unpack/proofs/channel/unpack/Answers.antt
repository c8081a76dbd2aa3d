-- `unpack` meets its contract. The loop's invariant: session and lent words are what k steps lead to, and no length has changed.
use lib.ListN.{length}
use mathlib.Core.Path.{◌≡◌, refl}
use native.Mathlib.Omega.{arith}
use Rattle.unpack.specs.Steps.{Before, steps}
use Rattle.unpack.proofs.Turn.{next_step}
use Rattle.unpack.proofs.channel.unpack.Goals as goal

pub loop-k-init : goal.loop-k-init
unfolding steps
loop-k-init c = record { within = omega arith; at = refl; plane_long = refl; cells_long = refl; memory_long = refl }

pub loop-k-preserved : goal.loop-k-preserved
loop-k-preserved c =
    let first : Before = record { session = c.args.session.now; plane = c.args.plane.now; cells = c.args.cells.now; memory = c.args.memory.now } in
    let plane_kept : length c.pixel.new.plane ≡ length c.args.plane.now = omega (arith, c.loop-k.invariant.plane_long) in
    let cells_kept : length c.pixel.new.cells ≡ length c.args.cells.now = omega (arith, c.loop-k.invariant.cells_long) in
    let memory_kept : length c.pixel.new.memory ≡ length c.args.memory.now = omega (arith, c.loop-k.invariant.memory_long) in
    record {
      within = omega (arith, c.loop-k-test.true);
      at = next_step c.args.records.now c.loop-k.k first c.loop-k.invariant.at (c.pixel.ensures.goes_on c.in_default.is);
      plane_long = plane_kept;
      cells_long = cells_kept;
      memory_long = memory_kept;
    }
