-- `error_at` meets its promise: the word read is word 0 of the position.
use mathlib.Core.Path.{◌∙◌}
use mir.Syntax.{w32}
use native.Mathlib.Nat.{add-zero}
use Rattle.integer.proofs.Bounded.{held}
use Rattle.weighted.specs.Memory.{error_at}
use Rattle.weighted.proofs.memory.error_at.Goals as goal

pub returns : goal.returns
unfolding error_at
returns c = rw add-zero (held w32 c.from_bits.result c.from_bits.type_inv ∙ c.from_bits.ensures)
