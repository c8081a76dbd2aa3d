-- `word` meets its contract: four bytes, each at its own power of 256.
use mathlib.Core.Path.{◌∙◌}
use mir.Syntax.{w32}
use Rattle.integer.proofs.Bounded.{held}
use Rattle.unpack.specs.Bytes.{word_at}
use Rattle.unpack.proofs.input.word.Goals as goal

pub returns : goal.returns
unfolding word_at
returns c =
    held w32 c.from_bits.result c.from_bits.type_inv
    ∙ c.from_bits.ensures
    ∙ rw (c.wide.ensures.0, c.wide-2.ensures.0, c.wide-3.ensures.0, c.wide-4.ensures.0)
