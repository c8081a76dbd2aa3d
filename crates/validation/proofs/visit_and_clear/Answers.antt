-- `visit_and_clear` meets its contract: the ranges are opened, the visit keeps what lies beyond, and the rest is cleared.
use lib.IntN.{pos}
use lib.ListN.{drop, length, take}
use mathlib.Core.Path.{◌≡◌, ap, sym, ◌∙◌}
use native.Mathlib.Omega.{arith}
use Prim.Native.Nat.{◌≤◌}
use Rattle.std.proofs.Common.{replicate, ◌++◌}
use Rattle.std.proofs.lemmas.List.{length-take-le}
use Rattle.std.proofs.lemmas.Grind.{common_steps}
use Rattle.validation.specs.Frames.{ranges}
use Rattle.validation.specs.Visit.{widest}
use Rattle.validation.proofs.Answers.{opened, beyond_filled, filled_alike, zeroes}
use Rattle.validation.proofs.visit_and_clear.Goals as goal

pub visit_all-found-requires : goal.visit_all-found-requires
visit_all-found-requires c =
    (c.requires.0, omega (arith, c.requires.1, c.open_ranges.auto.work), ap ranges c.open_ranges.ensures ∙ opened c.args.work.now)

pub slice_bounds-fill-end-2 : goal.slice_bounds-fill-end-2
slice_bounds-fill-end-2 c =
    let long : 10762 ≤ length c.visit_all-found.new.work = omega (arith, c.requires.1, c.open_ranges.auto.work, c.visit_all-found.auto.work) in
    sym (length-take-le 10762 _ long)

pub returns-clause-work_after : goal.returns-clause-work_after
returns-clause-work_after c =
    let long : 10762 ≤ length c.visit_all-found.new.work = omega (arith, c.requires.1, c.open_ranges.auto.work, c.visit_all-found.auto.work) in
    let all : length (take 10762 c.visit_all-found.new.work) ≡ 10762 = length-take-le 10762 _ long in
    let zeros : c.fill.new.self ≡ replicate (length (take 10762 c.visit_all-found.new.work)) (pos 0) = grind (arith, common_steps) in
    let beyond = c.visit_all-found.ensures.rest_unchanged ∙ ap (drop 10762) c.open_ranges.ensures ∙ beyond_filled widest 512 10250 c.args.work.now in
    ap (λ t. t ++ drop 10762 c.visit_all-found.new.work) (zeros ∙ ap (λ k. replicate k (pos 0)) all ∙ sym (zeroes 10762)) ∙ filled_alike (λ i. pos 0) 10762 c.visit_all-found.new.work c.args.work.now beyond
