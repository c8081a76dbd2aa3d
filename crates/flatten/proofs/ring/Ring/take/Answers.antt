-- `take` meets its contract.
use lib.IntN.{pos}
use lib.ListN.{get_or}
use mathlib.Core.Path.{◌≡◌}
use native.Mathlib.Omega.{arith}
use Prim.Native.Nat.{◌<◌}
use Rattle.integer.specs.Word.{bits_of}
use Rattle.flatten.specs.Ring.{ends}
use Rattle.flatten.proofs.Rounds.{takes}
use Rattle.flatten.proofs.ring.Ring.take.Goals as goal

pub returns-clause-takes : goal.returns-clause-takes
returns-clause-takes c =
    let ring = c.args.self.now in
    let is_place : c.to_bits-place.result ≡ bits_of (get_or ring.words.now ring.first (pos 0)) = grind arith in
    let some : 0 < ring.queued = omega arith in
    rw (c.round-self.ensures, is_place) (takes (ends ring) ring.words.now c.requires some)
