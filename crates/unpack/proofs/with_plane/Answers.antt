-- `with_plane` is safe: pixels that there is room for lie inside the array.
use lib.IntN.{pos}
use native.Mathlib.Omega.{arith}
use Rattle.unpack.proofs.Sizes.{in_array, pixels_fit}
use Rattle.unpack.proofs.with_plane.Goals as goal

pub overflow_mul-pixels : goal.overflow_mul-pixels
overflow_mul-pixels g c = record { fits = omega (arith, pixels_fit c.args.packed.now c.requires) }

pub slice_bounds-plane-end : goal.slice_bounds-plane-end
slice_bounds-plane-end g c = in_array 1048576 (pos 0) (pixels_fit c.args.packed.now c.requires)
