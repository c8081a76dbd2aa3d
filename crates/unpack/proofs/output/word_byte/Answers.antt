-- `word_byte` meets its contract: the place in the word chooses the power of 256.
use borrow.Author.Rules.{rules}
use lib.IntN.{ℤ, pos}
use lib.ListN.{get_or}
use mathlib.Core.Path.{◌≡◌, ap, ◌∙◌}
use mir.Syntax.{w32}
use native.Mathlib.Nat.{div-one}
use native.Mathlib.Omega.{arith}
use Prim.Native.Nat.{◌/◌, ◌%◌}
use Rattle.integer.proofs.Bounded.{held}
use Rattle.integer.specs.Word.{bits_of}
use Rattle.unpack.specs.Bytes.{word_byte}
use Rattle.unpack.proofs.output.word_byte.Goals as goal

pub returns-in-0 : goal.returns-in-0
unfolding word_byte
returns-in-0 c =
    let value : ℤ = get_or c.args.plane.now (c.args.i / 4) (pos 0) in
    let are_bits : c.to_bits-bits.result ≡ bits_of value = c.to_bits-bits.ensures ∙ ap bits_of (held w32 value (search rules)) in
    c.low_byte.ensures ∙ rw (are_bits, c.in-0.is, div-one)

pub returns-in-1 : goal.returns-in-1
unfolding word_byte
returns-in-1 c =
    let value : ℤ = get_or c.args.plane.now (c.args.i / 4) (pos 0) in
    let are_bits : c.to_bits-bits.result ≡ bits_of value = c.to_bits-bits.ensures ∙ ap bits_of (held w32 value (search rules)) in
    c.low_byte-in-1.ensures ∙ rw (are_bits, c.in-1.is)

pub returns-in-2 : goal.returns-in-2
unfolding word_byte
returns-in-2 c =
    let value : ℤ = get_or c.args.plane.now (c.args.i / 4) (pos 0) in
    let are_bits : c.to_bits-bits.result ≡ bits_of value = c.to_bits-bits.ensures ∙ ap bits_of (held w32 value (search rules)) in
    c.low_byte-in-2.ensures ∙ rw (are_bits, c.in-2.is)

pub returns-in_default : goal.returns-in_default
unfolding word_byte
returns-in_default c =
    let value : ℤ = get_or c.args.plane.now (c.args.i / 4) (pos 0) in
    let are_bits : c.to_bits-bits.result ≡ bits_of value = c.to_bits-bits.ensures ∙ ap bits_of (held w32 value (search rules)) in
    let last : c.args.i % 4 ≡ 3 = omega arith in
    c.low_byte-in_default.ensures ∙ rw (are_bits, last)
