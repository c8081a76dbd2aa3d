-- How many bytes a plane is, and what there is room for.
use borrow.Author.Tests.{leb-true}
use lib.Dec.{leb}
use lib.ListN.{length, replicate, length-replicate}
use mathlib.Core.Bool.{Bool, true, false, ◌&&◌}
use mathlib.Core.Path.{◌≡◌}
use native.Mathlib.Omega.{arith}
use Prim.Native.Nat.{ℕ, ◌*◌, ◌≤◌}
use Rattle.integer.proofs.Tests.{and_left, and_right}
use Rattle.unpack.specs.Bytes.{size_of}
use Rattle.unpack.specs.Room.{has_room}
use Rattle.unpack.specs.declared.packed.Packed.{Packed}

-- four bytes a pixel at the most
pub size_most : (picture : Bool) (pixels : ℕ) → size_of picture pixels ≤ 4 * pixels
size_most true pixels = omega arith
size_most false pixels = omega arith

-- a part of an array as it is made. With the length as a variable, for the prover would count a long array by its elements.
pub in_array : {A : Type 0} (n : ℕ) (a : A) {k : ℕ} → k ≤ n → k ≤ length (replicate n a)
in_array n a h = omega (arith, length-replicate n a)

module _ (p : Packed) (fits : has_room p ≡ true) where
  pub pixels_fit : p.rows * p.width ≤ 1048576
  unfolding has_room
  pixels_fit =
      leb-true _ _ (and_right (leb p.width 16384 && leb p.rows 1048576) (leb (p.rows * p.width) 1048576)
      (and_left (leb p.width 16384 && leb p.rows 1048576 && leb (p.rows * p.width) 1048576) (leb p.nodes 8191) fits))

  pub nodes_fit : p.nodes ≤ 8191
  unfolding has_room
  nodes_fit = leb-true _ _ (and_right (leb p.width 16384 && leb p.rows 1048576 && leb (p.rows * p.width) 1048576) (leb p.nodes 8191) fits)
