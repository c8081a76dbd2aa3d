-- `store` meets its contract: five words are written.
use mir.Syntax.{w32}
use Rattle.integer.proofs.Bounded.{held}
use Rattle.weighted.specs.Memory.{stored}
use Rattle.weighted.proofs.memory.store.Goals as goal

pub returns : goal.returns
unfolding stored
returns c =
    let e = c.args.errors in
    rw (simp (held w32 e.error c.struct_told-1.given.0.1) at c.to_bits.ensures)
