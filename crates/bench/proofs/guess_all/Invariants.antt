-- `guess_all` meets its contract. The loop's invariant: x guesses are written and the rest are as they were.
use mathlib.Core.Path.{◌≡◌}
use Rattle.integer.specs.Fill.{filled}
use Rattle.bench.specs.Guesses.{guess_at}
use Rattle.bench.proofs.guess_all.Given as goal

abbrev pub invariant-loop-x : goal.invariant-loop-x
invariant-loop-x l =
    l.guesses ≡ filled (guess_at l.row l.top l.toptop l.y l.predictor l.wp_pred) l.x l.initial.guesses
