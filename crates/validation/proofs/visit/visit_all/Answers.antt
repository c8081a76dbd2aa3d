-- `visit_all` meets its contract: each turn of a loop leaves what is to do as it was, and fewer nodes to enter.
use mathlib.Core.Path.{◌≡◌, sym, ◌∙◌}
use native.Mathlib.Omega.{arith}
use Prim.Native.Nat.{◌-◌}
use Rattle.std.proofs.Common.{Ok, Some, None}
use Rattle.validation.proofs.Steps.{kept_on, right_fits, to_do_all, at_start_lem}
use Rattle.validation.proofs.ToDo.{sound_list}
use Rattle.validation.proofs.Turns.{visit_on, rises, went_left, was_refused, rising_starts, kept_since, all_done, went_right}
use Rattle.validation.proofs.visit.visit_all.Goals as goal

pub visit-init : goal.visit-init
visit-init c = at_start_lem _ _ (sound_list _ c.requires.0) c.requires.1

pub enter-requires : goal.enter-requires
enter-requires c =
    let t = c.loop-refusal.invariant in
    let s = sound_list c.args.words.now c.requires.0 in
    (omega (arith, t.here, s.few), omega (arith, t.here, s.whole), t.above.deep, t.above.roomy, right_fits _ s _ t.here)

pub returns-in-Err : goal.returns-in-Err
returns-in-Err c =
    let it = was_refused _ c.requires.0 c.loop-refusal.invariant c.enter.ensures.result_value c.enter.ensures.work_after _ c.in-Err.is in
    let v = c.visit.invariant in
    record {
      result_value = sym it.0 ∙ v.same_to_do ∙ to_do_all _ c.args.work.now c.requires.2;
      rest_unchanged = (kept_on v.kept it.1).beyond;
    }

pub loop-refusal-smaller : goal.loop-refusal-smaller
loop-refusal-smaller c =
    let split : c.enter.result ≡ Ok (Some c.in-Ok-Some.left) = grind arith in
    (went_left _ c.requires.0 c.loop-refusal.invariant c.enter.ensures.result_value c.enter.ensures.work_after _ split).1

pub loop-refusal-preserved : goal.loop-refusal-preserved
loop-refusal-preserved c =
    let split : c.enter.result ≡ Ok (Some c.in-Ok-Some.left) = grind arith in
    (went_left _ c.requires.0 c.loop-refusal.invariant c.enter.ensures.result_value c.enter.ensures.work_after _ split).0

pub loop-depth-init : goal.loop-depth-init
loop-depth-init c =
    let leaf : c.enter.result ≡ Ok None = grind arith in
    rising_starts _ c.requires.0 c.loop-refusal.invariant c.enter.ensures.result_value c.enter.ensures.work_after leaf

pub leave-requires : goal.leave-requires
leave-requires c =
    let t = c.loop-depth.invariant in
    let deeper = c.if-depth-eq0.false in
    (omega (arith, t.above.deep), t.above.roomy, (t.above.framed (c.loop-depth.depth - 1) (omega (arith, deeper))).0)

pub visit-smaller : goal.visit-smaller
visit-smaller c =
    let leaf : c.enter.result ≡ Ok None = grind arith in
    (went_right _ c.requires.0 c.loop-refusal.invariant c.enter.ensures.result_value c.enter.ensures.work_after leaf c.loop-depth.invariant
    c.if-depth-eq0.false
    (sym c.in-Some.is ∙ c.leave.ensures.value)
    c.leave.ensures.work_after).1

pub visit-preserved : goal.visit-preserved
visit-preserved c =
    let leaf : c.enter.result ≡ Ok None = grind arith in
    visit_on c.visit.invariant
    (went_right _ c.requires.0 c.loop-refusal.invariant c.enter.ensures.result_value c.enter.ensures.work_after leaf c.loop-depth.invariant
    c.if-depth-eq0.false
    (sym c.in-Some.is ∙ c.leave.ensures.value)
    c.leave.ensures.work_after).0

pub loop-depth-preserved : goal.loop-depth-preserved
loop-depth-preserved c =
    rises c.requires.0 c.loop-depth.invariant c.if-depth-eq0.false (sym c.in_default.is ∙ c.leave.ensures.value) c.leave.ensures.work_after

pub returns-then-depth-eq0 : goal.returns-then-depth-eq0
returns-then-depth-eq0 c =
    let leaf : c.enter.result ≡ Ok None = grind arith in
    let v = c.visit.invariant in
    record {
      result_value =
          all_done _ c.requires.0 c.loop-refusal.invariant c.enter.ensures.result_value c.enter.ensures.work_after leaf c.loop-depth.invariant c.if-depth-eq0.true
          ∙ v.same_to_do
          ∙ to_do_all _ c.args.work.now c.requires.2;
      rest_unchanged =
          (kept_on v.kept (kept_since _ c.requires.0 c.loop-refusal.invariant c.enter.ensures.result_value c.enter.ensures.work_after leaf c.loop-depth.invariant)).beyond;
    }
