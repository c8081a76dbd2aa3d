-- `weigh_all` meets its contract. The loop's invariant: the state and the memory are those that the calls have come to before pixel k, and the
-- answers of the pixels before it are written. So an ask answers what the standard defines, and neither it nor the put is refused.
use Rattle.bench_weighted.proofs.WeighAllLoop.{Reached}
use Rattle.bench_weighted.proofs.weigh_all.Given as goal

abbrev pub invariant-loop-k : goal.invariant-loop-k
invariant-loop-k l = Reached l.«data» l.plane l.initial.memory l.initial.answers l.initial.state l.memory l.answers l.state l.k
