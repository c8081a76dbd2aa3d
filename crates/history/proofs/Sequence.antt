-- From opening on, every ask answers what the standard defines from the history of errors alone, and the put after it is never refused.
use borrow.Author.Tests.{le-leb, lt-ltb, leb-true, eqb-true, eqb-false}
use lib.Arith.{digits_mod, digits_div}
use lib.Dec.{ltb, leb, eqb}
use lib.IntN.{ℤ}
use lib.ListN.{length}
use lib.Signed.{mag}
use mathlib.Core.Bool.{Bool, true, false, ◌&&◌}
use mathlib.Core.List.{List}
use mathlib.Core.Path.{◌≡◌, refl, sym, ap₂, ◌∙◌}
use native.Mathlib.Nat.{zero-mod, zero-div, mod-lt, div-add-mod', div-lt_iff_lt-mul}
use native.Mathlib.Omega.{arith}
use Prim.Native.Nat.{ℕ, zero, suc, ◌+◌, ◌*◌, ◌/◌, ◌%◌, ◌^◌, ◌≤◌, ◌<◌}
use Rattle.blend.proofs.Bounds as bounds
use Rattle.blend.proofs.Range.{ranges}
use Rattle.blend.specs.Blend.{in_range, found, possible, predicted_of, errors_of}
use Rattle.blend.specs.declared.Found.{Found}
use Rattle.arith.specs.declared.Four.{Four}
use Rattle.blend.specs.declared.Prediction.{Prediction}
use Rattle.blend.specs.declared.TrueErrors.{TrueErrors}
use Rattle.blend.specs.declared.WeightedHeader.{WeightedHeader}
use Rattle.integer.proofs.Tests.{and_left, both}
use Rattle.integer.specs.Fill.{filled}
use Rattle.integer.specs.Order.{if}
use Rattle.predict.specs.declared.neighbours.PredictionData.{PredictionData}
use Rattle.refusal.specs.Paper.{gives}
use Rattle.weighted.proofs.Allowed.{may}
use Rattle.weighted.specs.Memory.{needed, previous, current, updated}
use Rattle.weighted.specs.State.{Answered, is_width, at_start, nothing, opens, asks, puts, answered, onward}
use Rattle.weighted.specs.declared.state.WeightedState.{WeightedState}
use Rattle.history.specs.Calls.{Words, Before, one_pixel, calls}
use Rattle.history.specs.Standard.{true_errors, err_sums, history, predicted}
use Rattle.history.proofs.Invariant.{Layout, at_start_lem, put_keeps, goes_on, halves}
use Rattle.history.proofs.Past.{history_words, errors_small}
use Rattle.history.proofs.Reading.{errors_read_lem, sums_read_lem}

-- a pixel that is answered and then put
one_pixel_lem : (b : Before) (d : PredictionData) (v : ℤ) (a : Answered) → asks b.state b.memory d ≡ gives a → puts a.state b.memory ≡ gives (onward a.state)
    → one_pixel b d v ≡ record { state = onward a.state; memory = updated b.memory a.state.width a.state.x a.state.y (errors_of a.state.found v) }
one_pixel_lem b d v a p q = rw (p, q)

-- the place of the pixel after k
module _ (width k : ℕ) (inside : k % width < width) where
  pub next_place : (t : Bool) → eqb (k % width + 1) width ≡ t
      → (suc k % width ≡ if t 0 (k % width + 1)) × (suc k / width ≡ if t (k / width + 1) (k / width))
  next_place true e =
      let ends : k % width + 1 ≡ width = eqb-true (k % width + 1) width e in
      let is : suc k ≡ (k / width + 1) * width + 0 = omega (arith, div-add-mod' k width) in
      rw is (digits_mod (k / width + 1) (omega arith), digits_div (k / width + 1) (omega arith))
  next_place false e =
      let more : k % width + 1 < width = omega (arith, eqb-false (k % width + 1) width e) in
      let is : suc k ≡ (k / width) * width + (k % width + 1) = omega (arith, div-add-mod' k width) in
      rw is (digits_mod (k / width) more, digits_div (k / width) more)

-- the blend's bound: no 32-bit neighbours and errors lead to a prediction out of range
pub possible_found : (h : WeightedHeader) (d : PredictionData) (e : TrueErrors) (s : Four) → in_range h ≡ true → Words d
    → (mag e.w < 2 ^ 31) × (mag e.n < 2 ^ 31) × (mag e.nw < 2 ^ 31) × (mag e.ne < 2 ^ 31) → possible (found h d e s) ≡ true
possible_found h d e s ranged words small =
    let neighbours : bounds.Words d =
    record {
      left = record { size = words.left_fits };
      top = record { size = words.top_fits };
      toptop = record { size = words.toptop_fits };
      topleft = record { size = words.topleft_fits };
      topright = record { size = words.topright_fits };
    }
    in
    let errors : bounds.ErrorWords e =
    record { w = record { size = small.0 }; n = record { size = small.1 }; nw = record { size = small.2 }; ne = record { size = small.3 } }
    in
    bounds.possible_found h d e (ranges h ranged) neighbours errors s

module _
    (h : WeightedHeader) (width : ℕ) (memory : List ℕ) (neighbours : ℕ → PredictionData) (value : ℕ → ℤ)
    (ranged : in_range h ≡ true) (wide : is_width width ≡ true) (roomy : needed width ≤ length memory) (words : (k : ℕ) → Words (neighbours k)) where
  abbrev at : ℕ → ℕ → Found → List ℕ → Before
  at x y f m = record { state = record { header = h; width = width; x = x; y = y; asked = false; found = f }; memory = m }

  -- before pixel k, by the invariant
  abbrev waiting : ℕ → Found → List ℕ → Before
  waiting k f m = at (k % width) (k / width) f m

  abbrev told : ℕ → Prediction
  told k = predicted h width neighbours value k

  abbrev Holds : ℕ → List ℕ → Type 0
  Holds k m = Layout width (history h width neighbours value k) m (previous width (k / width)) (current width (k / width)) (k % width) (k / width)

  record Stands (k : ℕ) (b : Before) : Type 0 where
    last : Found
    lent : List ℕ
    is : b ≡ waiting k last lent
    laid : Holds k lent

  some : 0 < width
  some = leb-true 1 width (and_left (leb 1 width) (leb width 65536) wide)

  module _ (k : ℕ) (early : k < width * 2 ^ 30) where
    inside : k % width < width
    inside = mod-lt k some

    is_place_lem : (is_width width && ltb (k % width) width && ltb (k / width) (2 ^ 30)) ≡ true
    is_place_lem =
        both (both wide (lt-ltb (k % width) width inside)) (lt-ltb (k / width) (2 ^ 30) ((div-lt_iff_lt-mul some).1 (omega arith)))

    could : possible (told k).found ≡ true
    could =
        let past = history h width neighbours value k in
        let x = k % width in
        let y = k / width in
        possible_found h (neighbours k) (true_errors width past x y) (err_sums width past x y) ranged (words k)
        (errors_small width past x y (history_words h width neighbours value k))

    module _ (f : Found) (m : List ℕ) (L : Holds k m) where
      abbrev here : WeightedState
      here = (waiting k f m).state

      abbrev asked : WeightedState
      asked = (answered here (told k)).state

      ask_answers : asks here m (neighbours k) ≡ gives (answered here (told k))
      ask_answers =
          let past = history h width neighbours value k in
          let all = history_words h width neighbours value k in
          may here true (length m) _ ranged is_place_lem refl L.roomy
          ∙ ap₂ (λ (e : TrueErrors) (s : Four). gives (answered here (predicted_of h (neighbours k) e s)))
          (errors_read_lem width past m (k % width) (k / width) all L inside)
          (sums_read_lem width past m (k % width) (k / width) all L inside)

      put_follows : puts asked m ≡ gives (onward asked)
      put_follows = may asked _ (length m) _ ranged is_place_lem could L.roomy

      steps : Stands (suc k) (one_pixel (waiting k f m) (neighbours k) (value k))
      unfolding history
      steps =
          let past = history h width neighbours value k in
          let x = k % width in
          let y = k / width in
          let e = errors_of (told k).found (value k) in
          let to = next_place width k inside (eqb (x + 1) width) refl in
          record {
            last = (told k).found;
            lent = updated m width x y e;
            is =
                one_pixel_lem (waiting k f m) (neighbours k) (value k) (answered here (told k)) ask_answers put_follows
                ∙ ap₂ (λ (a b : ℕ). at a b (told k).found (updated m width x y e)) (sym to.0) (sym to.1);
            laid =
                rw (to.0, to.1)
                (goes_on width (history h width neighbours value (suc k)) (updated m width x y e) x y (eqb (x + 1) width) refl
                (put_keeps width past m (previous width y) (current width y) x y (halves width y) L inside e));
          }

  -- ---- all pixels

  opened : opens h width memory ≡ gives (at_start h width)
  opened =
      let enough = le-leb (needed width) (length memory) roomy in
      simp (ranged, wide, enough)

  first : Stands 0 (calls h width memory neighbours value 0)
  unfolding calls history
  first =
      let zeros = filled (λ i. 0) (needed width) memory in
      record {
        last = nothing;
        lent = zeros;
        is = rw opened (ap₂ (λ (a b : ℕ). at a b nothing zeros) (sym (zero-mod width)) (sym (zero-div width)));
        laid = rw (zero-mod, zero-div) (at_start_lem width memory roomy (previous width 0) (current width 0) (halves width 0));
      }

  next : (k : ℕ) → k < width * 2 ^ 30 → Stands k (calls h width memory neighbours value k) → Stands (suc k) (calls h width memory neighbours value (suc k))
  unfolding calls
  next k early b = rw b.is (steps k early b.last b.lent b.laid)

  stands : (k : ℕ) → k ≤ width * 2 ^ 30 → Stands k (calls h width memory neighbours value k)
  stands zero early = first
  stands (suc k) early = next k early (stands k (omega arith))

  module _ (k : ℕ) (early : k < width * 2 ^ 30) where
    -- an ask answers what the standard defines
    pub sequence : asks (calls h width memory neighbours value k).state (calls h width memory neighbours value k).memory (neighbours k)
        ≡ gives (answered (calls h width memory neighbours value k).state (predicted h width neighbours value k))
    sequence =
        let b = stands k (omega arith) in
        rw b.is (ask_answers k early b.last b.lent b.laid)

    -- and the put that follows is never refused
    pub put_accepted : puts (answered (calls h width memory neighbours value k).state (predicted h width neighbours value k)).state
        (calls h width memory neighbours value k).memory
        ≡ gives (onward (answered (calls h width memory neighbours value k).state (predicted h width neighbours value k)).state)
    put_accepted =
        let b = stands k (omega arith) in
        rw b.is (put_follows k early b.last b.lent b.laid)
