-- `write_split` meets its contract.
use mir.Facts.{to_z_pos}
use mir.Syntax.{w32}
use native.Mathlib.Omega.{arith}
use Prim.Native.Nat.{◌+◌, ◌*◌, ◌<◌, ◌^◌}
use Rattle.integer.proofs.Bounded.{held}
use Rattle.flatten.proofs.Words.{six_words}
use Rattle.flatten.proofs.records.write_split.Goals as goal

pub returns : goal.returns
returns c =
    let small : c.args.split.property < 2 ^ 31 = omega (arith, c.requires.1) in
    let first_small : c.args.first < 2 ^ 31 = c.requires.4 in
    let both_small : c.args.left.property + 65536 * c.args.right.property < 2 ^ 31 = omega (arith, c.requires.2, c.requires.3) in
    six_words c.args.output.now c.args.at
    (to_z_pos w32 small)
    (held w32 c.args.split.value c.struct_told-1.given.1.0.1)
    (held w32 c.args.left.value c.struct_told-2-1.given.1.0.1)
    (held w32 c.args.right.value c.struct_told-3-1.given.1.0.1)
    (to_z_pos w32 first_small)
    (to_z_pos w32 both_small)
