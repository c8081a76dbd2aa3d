-- Session and lent words are what k steps lead to, and no length has changed.
use Rattle.unpack.proofs.Reached.{Reached}
use Rattle.unpack.proofs.channel.unpack.Given as goal

abbrev pub invariant-loop-k : goal.invariant-loop-k
invariant-loop-k l =
    Reached l.count l.records
    (record { session = l.fn.session; plane = l.fn.plane; cells = l.fn.cells; memory = l.fn.memory })
    (record { session = l.session; plane = l.plane; cells = l.cells; memory = l.memory }) l.k
