-- One turn of the loop: from `calls` k to `calls` of the next, and the answer is what the standard defines. The theorems of `history` want
-- 32-bit neighbours of every pixel, and the loop knows those it has read: it goes by neighbours that are zeros from there on, which what
-- is before pixel k cannot tell from the true ones.
use borrow.Author.Tests.{lt-ltb, ltb-true}
use lib.Dec.{ltb}
use lib.IntN.{ℤ, pos}
use lib.ListN.{length}
use mathlib.Core.Bool.{Bool, true, false}
use mathlib.Core.List.{List, [], ◌∷◌, ◌++◌}
use mathlib.Core.Path.{◌≡◌, refl, ap, ap₂, ◌∙◌}
use native.Mathlib.Decide.{dec_lt}
use native.Mathlib.Omega.{arith}
use Prim.Native.Nat.{ℕ, zero, suc, ◌*◌, ◌/◌, ◌%◌, ◌^◌, ◌≤◌, ◌<◌}
use Rattle.blend.specs.Blend.{predicted_of, errors_of}
use Rattle.blend.specs.declared.PixelErrors.{PixelErrors}
use Rattle.blend.specs.declared.Prediction.{Prediction}
use Rattle.blend.specs.declared.WeightedHeader.{WeightedHeader}
use Rattle.history.proofs.Sequence.{sequence, put_accepted}
use Rattle.history.specs.Calls.{Before, Words, calls}
use Rattle.history.specs.Standard.{true_errors, err_sums, history, predicted}
use Rattle.integer.specs.Order.{if}
use Rattle.predict.specs.declared.neighbours.PredictionData.{PredictionData}
use Rattle.refusal.specs.Paper.{gives, said, one_result}
use Rattle.refusal.specs.declared.Refusal.{Refusal}
use Rattle.std.specs.Prelude.{Result, Ok}
use Rattle.weighted.specs.State.{asks, after_ask, tells, answered, puts, done, next_state, after_put, onward}
use Rattle.weighted.specs.declared.state.Answer.{Answer}
use Rattle.weighted.specs.declared.state.WeightedState.{WeightedState}
use Rattle.bench_weighted.specs.Weighed.{neighbours_of, value_of, Fresh}
use Rattle.bench_weighted.proofs.Opening.{Started, started, calls_agree}
use Rattle.bench_weighted.proofs.WeighAllLoop.{Reached}

history_agree : (h : WeightedHeader) (width : ℕ) (f g : ℕ → PredictionData) (value : ℕ → ℤ) (k : ℕ) → ((j : ℕ) → j < k → f j ≡ g j)
    → history h width f value k ≡ history h width g value k
unfolding history
history_agree h width f g value zero same = refl
history_agree h width f g value (suc k) same =
    ap₂ (λ (past : List PixelErrors) (d : PredictionData). past ++ (errors_of (predicted_of h d (true_errors width past (k % width) (k / width)) (err_sums width past (k % width) (k / width))).found (value k) ∷ []))
    (history_agree h width f g value k (λ j l. same j (omega arith))) (same k (omega arith))

abbrev nowhere : PredictionData
nowhere = record { left = pos 0; top = pos 0; toptop = pos 0; topleft = pos 0; topright = pos 0; leftleft = pos 0; toprightright = pos 0 }

nowhere_words : Words nowhere
nowhere_words = record { left_fits = omega arith; top_fits = omega arith; toptop_fits = omega arith; topleft_fits = omega arith; topright_fits = omega arith }

or_last : (f : ℕ → PredictionData) (k : ℕ) → ((j : ℕ) → j < k → Words (f j)) → Words (f k) → (j : ℕ) → j < suc k → Dec (j < k) → Words (f j)
or_last f k before last j l (yes b) = before j b
or_last f k before last j l (no n) =
    let e : j ≡ k = omega arith in
    rw e last

-- one pixel more is read
pub words_more : (f : ℕ → PredictionData) (k : ℕ) → ((j : ℕ) → j < k → Words (f j)) → Words (f k) → (j : ℕ) → j < suc k → Words (f j)
words_more f k before last j l = or_last f k before last j l (dec_lt j k)

same_answer : {r : Result Answer Refusal} {a b : Answer} → r ≡ Ok a → r ≡ Ok b → a ≡ b
same_answer p q = cc (p, q)

-- what a put says that goes on to the next
pub record PutSays (next : Before) (r : Result Unit Refusal) (s : WeightedState) (lent : List ℕ) : Type 0 where
  pub answers : r ≡ Ok tt
  pub goes_on : s ≡ next.state
  pub leaves : lent ≡ next.memory

-- what an ask says of the pixel that the calls have come to
pub record AskSays (here next : Before) (told : Prediction) (value : ℤ) (lent : List ℕ) (r : Result Answer Refusal) (waiting : WeightedState) : Type 0 where
  pub answers : r ≡ Ok (record { guess = told.guess; property = told.property })
  pub tells_it : (a : Answer) → r ≡ Ok a → (a.guess ≡ told.guess) × (a.property ≡ told.property)
  pub then_put : {v : ℤ} → v ≡ value → {q : Result Unit Refusal} {s : WeightedState} {left : List ℕ}
      → said q ≡ done (puts waiting lent) → s ≡ next_state waiting (puts waiting lent) → left ≡ after_put waiting lent v (puts waiting lent) → PutSays next q s left

module _
    {h : WeightedHeader} {width : ℕ} {m : List ℕ} {s₀ : WeightedState} (begun : Started h width m s₀) (f : ℕ → PredictionData) (value : ℕ → ℤ)
    (k : ℕ) (early : k < width * 2 ^ 30) (words : (j : ℕ) → j < suc k → Words (f j)) where
  abbrev here : Before
  here = calls h width m f value k

  abbrev told : Prediction
  told = predicted h width f value k

  abbrev known : ℕ → PredictionData
  known j = if (ltb j (suc k)) (f j) nowhere

  same : (j : ℕ) → j < suc k → known j ≡ f j
  same j l = simp (lt-ltb j (suc k) l)

  words_if : (j : ℕ) (t : Bool) → ltb j (suc k) ≡ t → Words (if t (f j) nowhere)
  words_if j true e = words j (ltb-true j (suc k) e)
  words_if j false e = nowhere_words

  calls_same : calls h width m known value k ≡ here
  calls_same = calls_agree h width known f value m m refl k (λ j l. same j (omega arith))

  history_same : history h width known value k ≡ history h width f value k
  history_same = history_agree h width known f value k (λ j l. same j (omega arith))

  asks_is : asks here.state here.memory (f k) ≡ gives (answered here.state told)
  asks_is =
      rw (calls_same, history_same, same k (omega arith)) at
      (sequence h width m known value begun.ranged begun.wide begun.roomy (λ j. words_if j (ltb j (suc k)) refl) k early)

  puts_is : puts (answered here.state told).state here.memory ≡ gives (onward (answered here.state told).state)
  puts_is =
      rw (calls_same, history_same, same k (omega arith)) at
      (put_accepted h width m known value begun.ranged begun.wide begun.roomy (λ j. words_if j (ltb j (suc k)) refl) k early)

  pub ask_says : {s waiting : WeightedState} {lent : List ℕ} {d : PredictionData} → s ≡ here.state → lent ≡ here.memory → d ≡ f k
      → {r : Result Answer Refusal} → said r ≡ tells (asks s lent d) → waiting ≡ after_ask s (asks s lent d) → AskSays here (calls h width m f value (suc k)) told (value k) lent r waiting
  unfolding calls
  ask_says s_is Lent-is d_is {r} by_ask by_state =
      let waits = rw (s_is, Lent-is, d_is) at by_state in
      let asked_puts : puts (after_ask here.state (asks here.state here.memory (f k))) here.memory ≡ gives (onward (answered here.state told).state) = rw asks_is puts_is in
      let answers : r ≡ Ok (record { guess = told.guess; property = told.property }) = one_result r _ ((rw (s_is, Lent-is, d_is) at by_ask) ∙ ap tells asks_is) refl in
      record {
        answers = answers;
        tells_it = λ a e. (ap (λ (x : Answer). x.guess) (same_answer e answers), ap (λ (x : Answer). x.property) (same_answer e answers));
        then_put = λ v_is {q} by_put by_next by_memory.
            record {
              answers = one_result q _ ((rw (waits, Lent-is) at by_put) ∙ ap done asked_puts) refl;
              goes_on = rw (waits, Lent-is) at by_next;
              leaves = rw (waits, Lent-is, v_is) at by_memory;
            };
      }

-- one turn of the loop
pub turn_says : {words plane : List ℤ} {m₀ : List ℕ} {a₀ : List ℤ} {s₀ : WeightedState} {m : List ℕ} {a : List ℤ} {s : WeightedState} {k : ℕ}
    → Reached words plane m₀ a₀ s₀ m a s k → Fresh s₀ m₀ → length plane ≤ s₀.width * 2 ^ 30 → k < length plane
    → {d : PredictionData} → Words d → d ≡ neighbours_of words k
    → {r : Result Answer Refusal} {waiting : WeightedState} → said r ≡ tells (asks s m d) → waiting ≡ after_ask s (asks s m d)
    → AskSays (calls s₀.header s₀.width m₀ (neighbours_of words) (value_of plane) k) (calls s₀.header s₀.width m₀ (neighbours_of words) (value_of plane) (suc k))
    (predicted s₀.header s₀.width (neighbours_of words) (value_of plane) k) (value_of plane k) m r waiting
turn_says {words} {plane} {m₀} {a₀} {s₀} {m} {a} {s} {k} reached fresh rows below small is by_ask by_state =
    let begun = started s₀.header s₀.width m₀ s₀ fresh.opens_again in
    let early : k < s₀.width * 2 ^ 30 = omega (arith, rows, below) in
    ask_says begun (neighbours_of words) (value_of plane) k early (words_more (neighbours_of words) k reached.read (rw is at small)) reached.state_is reached.memory_is is by_ask by_state
