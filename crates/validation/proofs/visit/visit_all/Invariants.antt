-- `visit_all` meets its contract: each turn of a loop leaves what is to do as it was, and fewer nodes to enter.
use Rattle.validation.proofs.Steps.{Visiting, Rising}
use Rattle.validation.proofs.ToDo.{cost}
use Rattle.validation.proofs.visit.visit_all.Given as goal

abbrev pub invariant-loop-refusal : goal.invariant-loop-refusal
invariant-loop-refusal l = Visiting l.words l.initial.work l.initial.place l.initial.depth l.work l.place l.depth

abbrev pub decreases-loop-refusal : goal.decreases-loop-refusal
decreases-loop-refusal l = cost l.words l.place l.depth l.work

abbrev pub invariant-loop-depth : goal.invariant-loop-depth
invariant-loop-depth l = Rising l.words l.initial.work l.initial.depth l.work l.depth

abbrev pub decreases-loop-depth : goal.decreases-loop-depth
decreases-loop-depth l = l.depth

abbrev pub invariant-visit : goal.invariant-visit
invariant-visit l = Visiting l.words l.initial.work l.initial.place l.initial.depth l.work l.place l.depth

abbrev pub decreases-visit : goal.decreases-visit
decreases-visit l = cost l.words l.place l.depth l.work
