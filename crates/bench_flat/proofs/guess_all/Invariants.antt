-- `guess_all` meets its contract. The loop's invariant: each pixel before k has its guess.
use lib.IntN.{pos}
use lib.ListN.{get_or}
use Prim.Native.Nat.{ℕ, ◌<◌}
use Rattle.bench_flat.proofs.guess_all.Given as goal

abbrev pub invariant-loop-k : goal.invariant-loop-k
invariant-loop-k g l = (k : ℕ) → k < l.k → goal.F-post g l.guess k (get_or l.guesses k (pos 0))
