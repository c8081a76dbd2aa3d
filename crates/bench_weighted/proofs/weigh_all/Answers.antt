-- `weigh_all` meets its contract. The loop's invariant: the state and the memory are those that the calls have come to before pixel k, and the
-- answers of the pixels before it are written. So an ask answers what the standard defines, and neither it nor the put is refused.
use lib.IntN.{ℤ, pos}
use lib.ListN.{length, set, get_or}
use mathlib.Core.List.{List}
use mathlib.Core.Path.{◌≡◌, refl, sym, ap, ◌∙◌}
use mir.Syntax.{w32}
use mir.Val.{SFits}
use native.Mathlib.Numerals.{add-one}
use native.Mathlib.Omega.{arith}
use Prim.Native.Nat.{ℕ, ◌+◌, ◌*◌, ◌/◌, ◌%◌, ◌≤◌}
use Rattle.blend.specs.declared.Prediction.{Prediction}
use Rattle.integer.proofs.Fill.{filled_none, filled_more}
use Rattle.integer.specs.Fill.{filled}
use Rattle.std.proofs.lemmas.Int.{to_z-of_z}
use Rattle.bench_weighted.specs.Weighed.{answer_word}
use Rattle.bench_weighted.proofs.Opening.{first_state, first_memory}
use Rattle.bench_weighted.proofs.Turn.{turn_says, words_more}
use Rattle.bench_weighted.proofs.weigh_all.Goals as goal

-- two words more
even : (k : ℕ) → (2 * k % 2 ≡ 0) × (2 * k / 2 ≡ k)
even k = (omega arith, omega arith)

odd : (k : ℕ) → ((2 * k + 1) % 2 ≡ 1) × ((2 * k + 1) / 2 ≡ k)
odd k = (omega arith, omega arith)

told_more : (of : ℕ → Prediction) (k : ℕ) (a : List ℤ) {w : List ℤ} {x y : ℤ}
    → w ≡ filled (answer_word of) (2 * k) a → x ≡ (of k).guess → y ≡ (of k).property → 2 * k + 2 ≤ length a
    → set (set w (2 * k) x) (2 * k + 1) y ≡ filled (answer_word of) (2 * (k + 1)) a
unfolding answer_word
told_more of k a w_is x_is y_is room =
    let more : 2 * (k + 1) ≡ 2 * k + 1 + 1 = omega arith in
    let first : answer_word of (2 * k) ≡ (of k).guess = rw ((even k).0, (even k).1) in
    let second : answer_word of (2 * k + 1) ≡ (of k).property = rw ((odd k).0, (odd k).1) in
    rw (w_is, x_is, y_is, more, ← first, ← second)
    (ap (λ (l : List ℤ). set l (2 * k + 1) (answer_word of (2 * k + 1))) (filled_more (answer_word of) (2 * k) a (omega arith))
    ∙ filled_more (answer_word of) (2 * k + 1) a (omega arith))

pub loop-k-init : goal.loop-k-init
loop-k-init c = record {
  read = λ j l. absurd (omega arith);
  state_is = first_state c.args.opened c.args.memory.now c.requires.fresh _ _;
  memory_is = first_memory c.args.opened c.args.memory.now c.requires.fresh _ _;
  answers_are = sym (filled_none _ _);
}

pub returns-in_err-answer : goal.returns-in_err-answer
returns-in_err-answer c =
    let said = turn_says c.loop-k.invariant c.requires.fresh c.requires.rows c.loop-k-test.true c.neighbours_of.ensures.small c.neighbours_of.ensures.value c.ask.ensures.answers c.ask.ensures.state_is in
    let refused : ⊥ = cc (said.answers, c.in_err-answer.was) in
    absurd refused

pub returns-in_err-put : goal.returns-in_err-put
returns-in_err-put c =
    let said = turn_says c.loop-k.invariant c.requires.fresh c.requires.rows c.loop-k-test.true c.neighbours_of.ensures.small c.neighbours_of.ensures.value c.ask.ensures.answers c.ask.ensures.state_is in
    let fits : SFits w32 (get_or c.args.plane.now c.loop-k.k (pos 0)) = search arith in
    let done = said.then_put (to_z-of_z w32 _ fits) c.put.ensures.answers c.put.ensures.state_is c.put.ensures.holds in
    let refused : ⊥ = cc (done.answers, c.in_err-put.was) in
    absurd refused

pub loop-k-preserved : goal.loop-k-preserved
loop-k-preserved c =
    let said = turn_says c.loop-k.invariant c.requires.fresh c.requires.rows c.loop-k-test.true c.neighbours_of.ensures.small c.neighbours_of.ensures.value c.ask.ensures.answers c.ask.ensures.state_is in
    let fits : SFits w32 (get_or c.args.plane.now c.loop-k.k (pos 0)) = search arith in
    let done = said.then_put (to_z-of_z w32 _ fits) c.put.ensures.answers c.put.ensures.state_is c.put.ensures.holds in
    let told = said.tells_it c.in_ok-answer.answer c.in_ok-answer.was in
    let room : 2 * c.loop-k.k + 2 ≤ length c.args.answers.now = omega (arith, c.loop-k-test.true, c.requires.answers) in
    record {
      read = λ j l. words_more _ c.loop-k.k c.loop-k.invariant.read (rw c.neighbours_of.ensures.value at c.neighbours_of.ensures.small) j (rw add-one at l);
      state_is = rw add-one done.goes_on;
      memory_is = rw add-one done.leaves;
      answers_are = c.tell.ensures ∙ told_more _ c.loop-k.k c.args.answers.now c.loop-k.invariant.answers_are told.0 told.1 room;
    }

pub returns : goal.returns
returns c =
    let ends : c.loop-k.k ≡ length c.args.plane.now = omega (arith, c.loop-k.auto.k-end, c.loop-k-test.false) in
    record { answers = refl; holds_memory = rw ends at c.loop-k.invariant.memory_is; holds_answers = rw ends at c.loop-k.invariant.answers_are }
