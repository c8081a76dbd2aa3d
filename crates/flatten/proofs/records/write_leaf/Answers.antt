-- `write_leaf` meets its contract.
use lib.IntN.{pos}
use mathlib.Core.Path.{refl, ap, ◌∙◌}
use mir.Facts.{to_z_pos}
use mir.Syntax.{w32}
use native.Mathlib.Omega.{arith}
use Prim.Native.Nat.{ℕ, ◌%◌, ◌<◌, ◌^◌}
use Rattle.integer.proofs.Bounded.{held}
use Rattle.flatten.proofs.Words.{six_words, cast}
use Rattle.flatten.proofs.records.write_leaf.Goals as goal

pub returns : goal.returns
returns c =
    let small : c.to_bits.result % 65536 < 2 ^ 31 = omega arith in
    let is_offset = simp (held w32 c.args.leaf.offset c.struct_told-1.given.1.0.1) at c.to_bits.ensures in
    six_words c.args.output.now c.args.at
    refl
    (cast c.args.leaf.predictor)
    (held w32 c.from_bits.result c.from_bits.type_inv ∙ c.from_bits.ensures)
    refl
    (held w32 c.from_bits-2.result c.from_bits-2.type_inv ∙ c.from_bits-2.ensures)
    (to_z_pos w32 small ∙ ap (λ (k : ℕ). pos (k % 65536)) is_offset)
