-- The low word of a product is that of the bit patterns' product.
use lib.Arith.{digits_mod}
use lib.IntN.{ℤ, pos, ◌*ℤ◌, *ℤ_comm}
use mathlib.Core.Path.{◌≡◌, sym, ap, ◌∙◌}
use mir.Syntax.{w32}
use mir.Val.{to_z}
use native.Mathlib.Omega.{arith}
use Prim.Native.Nat.{ℕ, ◌+◌, ◌*◌, ◌/◌, ◌%◌, ◌<◌}
use Rattle.integer.proofs.Parts.{up, down, up_times, down_times}
use Rattle.integer.proofs.Wrap.{bits_parts}
use Rattle.integer.specs.Word.{wrap, bits_of}

-- a factor may be reduced before the product is
mod_times : (a m : ℕ) → (a % 4294967296 * m) % 4294967296 ≡ (a * m) % 4294967296
mod_times a m =
    let q = a / 4294967296 in
    let r = a % 4294967296 in
    let rest = r * m in
    let low : rest % 4294967296 < 4294967296 = omega arith in
    let whole : a ≡ q * 4294967296 + r = omega arith in
    let split : a * m ≡ (q * m + rest / 4294967296) * 4294967296 + rest % 4294967296 = ap (λ (t : ℕ). t * m) whole ∙ omega arith in
    sym (ap (λ (t : ℕ). t % 4294967296) split ∙ digits_mod (q * m + rest / 4294967296) low)

pub times_bits : (z : ℤ) (m : ℕ) → bits_of (z *ℤ pos m) ≡ (bits_of z * m) % 4294967296
times_bits z m =
    let parts : m * up z + 4294967295 * (m * down z) ≡ (up z + 4294967295 * down z) * m = omega arith in
    rw (*ℤ_comm z (pos m), bits_parts (pos m *ℤ z), up_times m z, down_times m z, bits_parts z, mod_times (up z + 4294967295 * down z) m, parts)

pub product_word : (z : ℤ) (m : ℕ) → wrap (pos ((bits_of z * m) % 4294967296)) ≡ wrap (z *ℤ pos m)
product_word z m =
    let once : (bits_of z * m) % 4294967296 % 4294967296 ≡ (bits_of z * m) % 4294967296 = omega arith in
    ap (to_z w32) (once ∙ sym (times_bits z m))
