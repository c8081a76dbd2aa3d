-- `put` meets its contract.
use mir.Facts.{to_z_pos}
use mir.Syntax.{w32}
use Prim.Native.Nat.{◌<◌, ◌^◌}
use Rattle.flatten.specs.Ring.{ends}
use Rattle.flatten.proofs.Rounds.{puts}
use Rattle.flatten.proofs.ring.Ring.put.Goals as goal

pub returns-clause-puts : goal.returns-clause-puts
returns-clause-puts c =
    let small : c.args.place < 2 ^ 31 = c.requires.2 in
    rw (c.round-at.ensures, to_z_pos w32 small)
    (puts (ends c.args.self.now) c.args.self.now.words.now c.args.place c.requires.0 c.requires.1 c.requires.2)
