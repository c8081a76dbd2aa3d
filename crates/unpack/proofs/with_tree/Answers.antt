-- `with_tree` is safe: nodes that there is room for lie inside the array.
use lib.IntN.{pos}
use native.Mathlib.Omega.{arith}
use Rattle.unpack.proofs.Sizes.{in_array, nodes_fit}
use Rattle.unpack.proofs.with_tree.Goals as goal

pub overflow_mul-words : goal.overflow_mul-words
overflow_mul-words g c = record { fits = omega (arith, nodes_fit c.args.packed.now c.requires) }

pub slice_bounds-nodes-end : goal.slice_bounds-nodes-end
slice_bounds-nodes-end g c = in_array 40955 (pos 0) (omega (arith, nodes_fit c.args.packed.now c.requires))
