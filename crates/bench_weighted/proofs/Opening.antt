-- What opening tells: where it gives a state every test held, and the calls over the cleared memory are those over the memory as it was.
use borrow.Author.Tests.{leb-true}
use lib.Dec.{leb}
use lib.IntN.{ℤ}
use lib.ListN.{length, drop}
use lib.Seq.{drop_at}
use mathlib.Core.Bool.{Bool, true, false}
use mathlib.Core.List.{List, ◌++◌}
use mathlib.Core.Path.{◌≡◌, refl, sym, ap, ap₂, ◌∙◌}
use native.Mathlib.Omega.{arith}
use Prim.Native.Nat.{ℕ, zero, suc, ◌≤◌, ◌<◌}
use Rattle.blend.specs.Blend.{in_range}
use Rattle.blend.specs.declared.WeightedHeader.{WeightedHeader}
use Rattle.history.specs.Calls.{Before, one_pixel, calls}
use Rattle.integer.proofs.Fill.{tabulate_length, filled_length}
use Rattle.integer.specs.Fill.{tabulate, filled}
use Rattle.predict.specs.declared.neighbours.PredictionData.{PredictionData}
use Rattle.refusal.proofs.Outcomes.{same_given, no_refusal}
use Rattle.refusal.specs.Paper.{Outcome, gives, said}
use Rattle.refusal.specs.declared.Refusal.{Refusal}
use Rattle.std.specs.Prelude.{Result, Ok}
use Rattle.weighted.specs.Memory.{needed}
use Rattle.weighted.specs.State.{test, is_width, at_start, opens, cleared}
use Rattle.weighted.specs.declared.state.WeightedState.{WeightedState}
use Rattle.bench_weighted.specs.Weighed.{neighbours_of, value_of, Fresh, memory_after, answers_to}

pub record Started (h : WeightedHeader) (width : ℕ) (m : List ℕ) (s : WeightedState) : Type 0 where
  pub ranged : in_range h ≡ true
  pub wide : is_width width ≡ true
  pub roomy : needed width ≤ length m
  pub first : s ≡ at_start h width

passed : (a b c : Bool) (n : ℕ) (s t : WeightedState) → test a 12 0 (test b 11 0 (test c 8 n (gives t))) ≡ gives s
    → (a ≡ true) × (b ≡ true) × (c ≡ true) × (s ≡ t)
passed false b c n s t e = absurd (no_refusal e)
passed true false c n s t e = absurd (no_refusal e)
passed true true false n s t e = absurd (no_refusal e)
passed true true true n s t e = (refl, refl, refl, sym (same_given e))

-- where opening answers a state, it gives it
pub gave : {r : Result WeightedState Refusal} {s : WeightedState} {o : Outcome WeightedState} → said r ≡ o → r ≡ Ok s → o ≡ gives s
gave says is = sym says ∙ ap said is

-- the calls depend on the memory as it is cleared and on the neighbours before
module _ (h : WeightedHeader) (width : ℕ) (f g : ℕ → PredictionData) (value : ℕ → ℤ) (m n : List ℕ) (e : cleared m (opens h width m) ≡ cleared n (opens h width n)) where
  pub calls_agree : (k : ℕ) → ((j : ℕ) → j < k → f j ≡ g j) → calls h width m f value k ≡ calls h width n g value k
  unfolding calls
  calls_agree zero same = ap (λ (x : List ℕ). record { state = at_start h width; memory = x }) e
  calls_agree (suc k) same =
      ap₂ (λ (b : Before) (d : PredictionData). one_pixel b d (value k)) (calls_agree k (λ j l. same j (omega arith))) (same k (omega arith))

module _ (h : WeightedHeader) (width : ℕ) (m : List ℕ) (s : WeightedState) (given : opens h width m ≡ gives s) where
  pub started : Started h width m s
  started =
      let p = passed (in_range h) (is_width width) (leb (needed width) (length m)) (needed width) s (at_start h width) given in
      record { ranged = p.0; wide = p.1; roomy = leb-true (needed width) (length m) p.2; first = p.3 }

  abbrev zeros : List ℕ
  zeros = filled (λ i. 0) (needed width) m

  still : length zeros ≡ length m
  still = filled_length (λ i. 0) (needed width) m started.roomy

  clear_twice : filled (λ i. 0) (needed width) zeros ≡ zeros
  clear_twice = ap (λ (l : List ℕ). tabulate (λ i. 0) (needed width) ++ l) (drop_at (tabulate (λ i. 0) (needed width)) (drop (needed width) m) (needed width) (tabulate_length (λ i. 0) (needed width)))

  again : opens h width zeros ≡ gives s
  again = ap (λ (n : ℕ). test (in_range h) 12 0 (test (is_width width) 11 0 (test (leb (needed width) n) 8 (needed width) (gives (at_start h width))))) still ∙ given

  fresh : Fresh s zeros
  fresh = rw started.first (record { opens_again = rw started.first at again; is_clear = clear_twice })

  clears : cleared m (opens h width m) ≡ zeros
  clears = ap (cleared m) given ∙ ap (λ (t : WeightedState). filled (λ i. 0) (needed t.width) m) started.first

  clears_again : cleared zeros (opens h width zeros) ≡ zeros
  clears_again = ap (cleared zeros) again ∙ ap (λ (t : WeightedState). filled (λ i. 0) (needed t.width) zeros) started.first ∙ clear_twice

  -- what opening leaves, and what the loop leaves after it
  module _ {m₁ : List ℕ} (left : m₁ ≡ cleared m (opens h width m)) where
    pub fresh_left : Fresh s m₁
    fresh_left = rw (left ∙ clears) fresh

    pub weighs_on : (words plane : List ℤ) (a : List ℤ) {m' : List ℕ} {a' : List ℤ}
        → m' ≡ memory_after s.header s.width words plane m₁ → a' ≡ answers_to s.header s.width words plane (length plane) a
        → (m' ≡ memory_after h width words plane m) × (a' ≡ answers_to h width words plane (length plane) a)
    weighs_on words plane a memory_is answers_are = (
      (rw (left ∙ clears, started.first) at memory_is)
          ∙ ap (λ (b : Before). b.memory) (calls_agree h width (neighbours_of words) (neighbours_of words) (value_of plane) zeros m (clears_again ∙ sym clears) (length plane) (λ j l. refl)),
      rw started.first at answers_are,
    )

-- before the first turn
module _ (s : WeightedState) (m : List ℕ) (begins : Fresh s m) (f : ℕ → PredictionData) (value : ℕ → ℤ) where
  pub first_state : s ≡ (calls s.header s.width m f value 0).state
  unfolding calls
  first_state = (started s.header s.width m s begins.opens_again).first

  pub first_memory : m ≡ (calls s.header s.width m f value 0).memory
  unfolding calls
  first_memory = sym (ap (cleared m) begins.opens_again ∙ begins.is_clear)
