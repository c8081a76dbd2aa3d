-- One pixel of a session whose place is pixel k: what its ask and its put are, in the words of the channel's own definition.
use borrow.Author.Tests.{le-leb, lt-ltb, leb-true, eq-eqb, ne_eqb}
use lib.Arith.{digits_mod, digits_div}
use lib.Dec.{leb, ltb, eqb}
use lib.IntN.{ℤ, pos}
use lib.ListN.{length, get_or, set}
use mathlib.Core.Bool.{Bool, true, false, ◌&&◌}
use mathlib.Core.List.{List, [], ◌∷◌}
use mathlib.Core.Path.{◌≡◌, refl, sym, ap, ap₂, ◌∙◌}
use native.Mathlib.Nat.{mod-lt, div-add-mod', div-lt_iff_lt-mul, sub-zero}
use native.Mathlib.Omega.{arith}
use Prim.Native.Nat.{ℕ, suc, ◌+◌, ◌-◌, ◌*◌, ◌/◌, ◌%◌, ◌^◌, ◌<◌}
use Rattle.arith.specs.declared.Four.{Four}
use Rattle.blend.specs.Blend.{possible, predicted_of}
use Rattle.blend.specs.declared.Found.{Found}
use Rattle.blend.specs.declared.PixelErrors.{PixelErrors}
use Rattle.blend.specs.declared.Prediction.{Prediction}
use Rattle.blend.specs.declared.TrueErrors.{TrueErrors}
use Rattle.cells.specs.Cells.{cells_needed}
use Rattle.colour.specs.Rows.{is_row, row_of}
use Rattle.history.proofs.Invariant.{Layout}
use Rattle.history.proofs.Past.{IsWord, errors_small}
use Rattle.history.proofs.Reading.{errors_read_lem, sums_read_lem}
use Rattle.history.proofs.Sequence.{possible_found, next_place}
use Rattle.history.specs.Standard.{none, true_errors, err_sums}
use Rattle.integer.proofs.Tests.{and_left, both}
use Rattle.integer.specs.Order.{if}
use Rattle.predict.specs.Neighbours.{fetched}
use Rattle.predict.specs.declared.neighbours.PredictionData.{PredictionData}
use Rattle.refusal.specs.Paper.{Outcome, gives, refuses}
use Rattle.session.specs.Session.{is_lent, silent, rows_of, answered_by, may_ask, may_put, Asking, ask_by, walked, walks_from, waiting, asks, Putting, put_by, puts}
use Rattle.session.specs.declared.Session.{Session}
use Rattle.walk.specs.declared.PredictionResult.{PredictionResult}
use Rattle.weighted.specs.Memory.{needed, previous, current}
use Rattle.weighted.specs.State.{Answered, answered, predicted_at}
use Rattle.channel.specs.Calls.{Sound}
use Rattle.channel.specs.Channel.{Told, Scan, row_up, seven, predicted, cells_of, value_of, after}
use Rattle.channel.proofs.Neighbours.{AreWords, row_words, neighbour_words}

module _ (t : Told) where
  -- a session that waits for an ask, at a place, and at pixel k
  abbrev pub placed : ℕ → ℕ → Bool → Found → ℤ → ℕ → Session
  placed column line live f guess multiplier =
      record {
        weighted = record { header = t.header; width = t.width; x = column; y = line; asked = false; found = f };
        weights = t.weights;
        mask = t.mask;
        live = live;
        guess = guess;
        multiplier = multiplier;
      }

  abbrev pub at : ℕ → Bool → Found → ℤ → ℕ → Session
  at k = placed (k % t.width) (k / t.width)

  -- with weights on, what the memory holds before pixel k
  abbrev pub Laid : Bool → ℕ → List PixelErrors → List ℕ → Type 0
  Laid weights k past m =
      weights ≡ true → Layout t.width past m (previous t.width (k / t.width)) (current t.width (k / t.width)) (k % t.width) (k / t.width)

module _ (t : Told) (records plane cells : List ℤ) (memory : List ℕ) (rows : ℕ) (sound : Sound t records plane cells memory rows) where
  -- what a channel that stands has kept before pixel k
  pub record Kept (k : ℕ) (s : Scan) : Type 0 where
    pub long : length s.plane ≡ length plane
    pub words : AreWords s.plane
    pub roomy : length s.cells ≡ length cells
    pub laid : Laid t t.weights k s.past s.memory
    pub errors : (j : ℕ) → IsWord (get_or s.past j none)

  pub some_columns : 0 < t.width
  some_columns = leb-true 1 t.width (and_left (leb 1 t.width) (leb t.width 65536) sound.arguments.wide)

  -- ---- the place of pixel k

  module _ (k : ℕ) (inside : k < length plane) where
    abbrev x : ℕ
    x = k % t.width

    abbrev y : ℕ
    y = k / t.width

    pub in_row : x < t.width
    in_row = mod-lt k some_columns

    pub is_pixel_lem : (size : ℕ) → size ≡ length plane → (is_row size t.width y && ltb x t.width) ≡ true
    is_pixel_lem size same =
        let whole : size ≡ rows * t.width + 0 = omega (arith, sound.arguments.whole) in
        let row : y < rows = (div-lt_iff_lt-mul some_columns).1 (omega (arith, sound.arguments.whole)) in
        let even : size % t.width ≡ 0 = rw whole (digits_mod rows some_columns) in
        let high : size / t.width ≡ rows = rw whole (digits_div rows some_columns) in
        both
        (both (both (both sound.arguments.wide (eq-eqb (size % t.width) 0 even)) (lt-ltb y (2 ^ 30) (omega (arith, sound.arguments.few_rows))))
        (lt-ltb y (size / t.width) (omega arith)))
        (lt-ltb x t.width in_row)

    pub sayable : leb (cells_needed t.mask (length (t.references k))) 4294967295 ≡ true
    sayable = le-leb (cells_needed t.mask (length (t.references k))) 4294967295 (omega (arith, sound.arguments.fits k, sound.arguments.sayable))

    -- ---- an ask

    module _ (s : Scan) (kept : Kept k s) where
      lent : is_lent t.weights t.width (length s.memory) ≡ true
      lent = by t.weights kept.laid
        where
          by : (w : Bool) → Laid t w k s.past s.memory → is_lent w t.width (length s.memory) ≡ true
          by true laid = le-leb (needed t.width) (length s.memory) (laid refl).roomy
          by false laid = refl

      -- what is predicted with weights on
      abbrev weighed : Prediction
      weighed = predicted_of t.header (seven t s k) (true_errors t.width s.past x y) (err_sums t.width s.past x y)

      -- it is no prediction that a put would refuse
      could : if t.weights (possible (predicted t s k).found) true ≡ true
      could = by t.weights
        where
          row : (n : ℕ) → AreWords (row_up t s k n)
          row n = row_words s.plane t.width n y (y - n) kept.words

          by : (w : Bool) → if w (possible (if w weighed silent).found) true ≡ true
          by true =
              possible_found t.header (seven t s k) (true_errors t.width s.past x y) (err_sums t.width s.past x y) sound.arguments.header_in_range
              (neighbour_words (row_up t s k 0) (row_up t s k 1) (row_up t s k 2) x (row 0) (row 1) (row 2))
              (errors_small t.width s.past x y kept.errors)
          by false = refl

      module _ (f : Found) (g : ℤ) (n : ℕ) where
        abbrev here : Session
        here = at t k true f g n

        may_ask_lem : may_ask here (length s.plane) (length (t.references k)) records (length s.cells) (length s.memory) ≡ gives tt
        may_ask_lem =
            let needs = cells_needed t.mask (length (t.references k)) in
            let some = ne_eqb sound.count 0 (λ e. omega (arith, sound.some)) in
            let enough = le-leb needs (length s.cells) (omega (arith, sound.arguments.fits k, kept.roomy)) in
            simp (sound.arguments.header_in_range, is_pixel_lem (length s.plane) kept.long, sayable, sound.counts, some, lent, enough)

        -- the pixel's own row is always there
        same_rows : rows_of here s.plane ≡ seven t s k
        same_rows =
            let own : row_up t s k 0 ≡ row_of s.plane t.width y = rw (le-leb 0 y (omega arith), sub-zero y) in
            ap (λ (row : List ℤ). fetched row (row_up t s k 1) (row_up t s k 2) x) (sym own)

        -- the memory holds what the standard says of the errors before
        same_prediction : if t.weights (predicted_at here.weighted s.memory (seven t s k)) silent ≡ predicted t s k
        same_prediction = by t.weights kept.laid
          where
            by : (w : Bool) → Laid t w k s.past s.memory
                → if w (predicted_at here.weighted s.memory (seven t s k)) silent ≡ if w weighed silent
            by true laid =
                ap₂ (λ (e : TrueErrors) (sums : Four). predicted_of t.header (seven t s k) e sums)
                (errors_read_lem t.width s.past s.memory x y kept.errors (laid refl) in_row)
                (sums_read_lem t.width s.past s.memory x y kept.errors (laid refl) in_row)
            by false laid = refl

        abbrev answer : Answered
        answer = answered here.weighted (predicted t s k)

        pub ask_walks : asks here s.plane (t.references k) records s.cells s.memory
            ≡ walked here answer (cells_of t s k) (t.walk (cells_of t s k) (seven t s k) (predicted t s k).guess)
        unfolding asks
        ask_walks =
            let from : PredictionData → Answered → Asking = λ d a. walks_from here d a (t.references k) records s.cells in
            let d = rows_of here s.plane in
            ap (λ (o : Outcome Unit). ask_by o (from d (answered_by here s.memory d)) here s.cells) may_ask_lem
            ∙ ap (λ (d : PredictionData). from d (answered_by here s.memory d)) same_rows
            ∙ ap (λ (p : Prediction). from (seven t s k) (answered here.weighted p)) same_prediction
            ∙ ap
            (λ (walk : List ℤ → PredictionData → ℤ → Outcome PredictionResult). walked here answer (cells_of t s k)
            (walk (cells_of t s k) (seven t s k) (predicted t s k).guess))
            (sym sound.arguments.walks)

        -- ---- the put after it

        module _ (r : PredictionResult) where
          abbrev asked : Session
          asked = waiting here answer r

          -- it leaves the session at a place, and the value in a word of the plane
          abbrev left : ℕ → ℕ → ℕ → Putting
          left column line word =
              record {
                says = gives tt;
                session = placed t column line true (predicted t s k).found r.guess r.multiplier;
                plane = set s.plane word (value_of t s k r);
                memory = (after t s k (gives r)).memory;
              }

          may_put_lem : may_put asked (length s.plane) (length s.memory) ≡ gives tt
          may_put_lem = simp (sound.arguments.header_in_range, is_pixel_lem (length s.plane) kept.long, could, lent)

          pub put_done : puts asked (t.residual k) s.plane s.memory
              ≡ left (suc k % t.width) (suc k / t.width) k
          unfolding puts
          put_done =
              let column = if (eqb (x + 1) t.width) 0 (x + 1) in
              let line = if (eqb (x + 1) t.width) (y + 1) y in
              let to = next_place t.width k in_row (eqb (x + 1) t.width) refl in
              ap (λ (o : Outcome Unit). put_by o (left column line (y * t.width + x)) asked s.plane s.memory) may_put_lem
              ∙ ap₂ (λ (a b : ℕ). left a b (y * t.width + x)) (sym to.0) (sym to.1)
              ∙ ap (left (suc k % t.width) (suc k / t.width)) (div-add-mod' k t.width)

    -- ---- a session that a refused walk has closed, at pixel k: nothing changes, whatever is asked and put

    module _ (f : Found) (g : ℤ) (n : ℕ) where
      abbrev closed_here : Session
      closed_here = at t k false f g n

      pub ask_closed : (s : Scan) (references : List ℤ) → length s.plane ≡ length plane → leb (cells_needed t.mask (length references)) 4294967295 ≡ true
          → asks closed_here s.plane references records s.cells s.memory
          ≡ record { says = refuses 13 (pos 0 ∷ []); session = closed_here; cells = s.cells }
      unfolding asks
      ask_closed s references long sayable = simp (sound.arguments.header_in_range, is_pixel_lem (length s.plane) long, sayable)

      pub put_closed : (s : Scan) (residual : ℤ) → length s.plane ≡ length plane
          → puts closed_here residual s.plane s.memory
          ≡ record { says = refuses 13 (pos 0 ∷ []); session = closed_here; plane = s.plane; memory = s.memory }
      unfolding puts
      put_closed s residual long = simp (sound.arguments.header_in_range, is_pixel_lem (length s.plane) long)
