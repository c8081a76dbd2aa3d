-- `unpack` meets its contract: bit patterns are added and multiplied modulo 2^32.
use lib.IntN.{ℤ, pos, ◌+ℤ◌, ◌*ℤ◌}
use mathlib.Core.Path.{ap, ap₂, ◌∙◌}
use mir.Facts.{to_z-of_z}
use mir.Syntax.{w32}
use Prim.Native.Nat.{ℕ, ◌*◌, ◌%◌}
use Rattle.integer.proofs.Bounded.{held}
use Rattle.integer.proofs.Wrap.{wrap_plus_left, wrap_plus_right}
use Rattle.integer.specs.Word.{wrap}
use Rattle.session.proofs.Product.{product_word}
use Rattle.session.proofs.unpack.Goals as goal

pub returns : goal.returns
returns c =
    let z = c.args.residual in
    let m = c.args.multiplier in
    let low = held w32 c.low_word.result c.low_word.type_inv ∙ (simp (to_z-of_z c.ranges.guess) at c.low_word.ensures) in
    let pattern = simp (to_z-of_z c.ranges.residual) at c.to_bits.ensures in
    let product = held w32 c.from_bits.result c.from_bits.type_inv ∙ c.from_bits.ensures in
    let times = ap (λ (n : ℕ). wrap (pos ((n * m) % 4294967296))) pattern ∙ product_word z m in
    held w32 c.wrapping_add.result c.wrapping_add.type_inv
    ∙ c.wrapping_add.ensures
    ∙ ap₂ (λ (x y : ℤ). wrap (x +ℤ y)) low (product ∙ times)
    ∙ wrap_plus_left c.args.guess (wrap (z *ℤ pos m))
    ∙ wrap_plus_right c.args.guess (z *ℤ pos m)
