-- `sample_byte` meets its contract: the high byte stands at the even place.
use borrow.Author.Rules.{rules}
use lib.IntN.{ℤ, pos}
use lib.ListN.{get_or}
use mathlib.Core.Path.{◌≡◌, ap, ◌∙◌}
use mir.Syntax.{w32}
use native.Mathlib.Nat.{div-one}
use native.Mathlib.Omega.{arith}
use Prim.Native.Nat.{◌/◌, ◌%◌}
use Rattle.integer.proofs.Bounded.{held}
use Rattle.unpack.specs.Bytes.{sample_of, sample_byte}
use Rattle.unpack.proofs.output.sample_byte.Goals as goal

pub returns-then-i-eq0 : goal.returns-then-i-eq0
unfolding sample_byte
returns-then-i-eq0 c =
    let value : ℤ = get_or c.args.plane.now (c.args.i / 2) (pos 0) in
    let is_sample : c.sample-sample.result ≡ sample_of value = c.sample-sample.ensures ∙ ap sample_of (held w32 value (search rules)) in
    c.low_byte.ensures ∙ rw (is_sample, c.if-i-eq0.true)

pub returns-else-i-eq0 : goal.returns-else-i-eq0
unfolding sample_byte
returns-else-i-eq0 c =
    let value : ℤ = get_or c.args.plane.now (c.args.i / 2) (pos 0) in
    let is_sample : c.sample-sample.result ≡ sample_of value = c.sample-sample.ensures ∙ ap sample_of (held w32 value (search rules)) in
    let odd : c.args.i % 2 ≡ 1 = omega (arith, c.if-i-eq0.false) in
    c.low_byte-else-i-eq0.ensures ∙ rw (is_sample, odd, div-one)
