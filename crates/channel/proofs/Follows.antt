-- From opening on, whatever the residuals: plane, contexts, cells and memory after any number of asks and puts are those of the channel's
-- own definition, also after a walk that was refused.
use borrow.Author.Tests.{le-leb, leb-true}
use lib.Dec.{leb, eqb}
use lib.IntN.{ℤ, pos, ◌+ℤ◌, ◌*ℤ◌}
use lib.ListN.{length, length-set}
use mathlib.Core.Bool.{Bool, true, false}
use mathlib.Core.List.{List, [], ◌∷◌, ◌++◌}
use mathlib.Core.Path.{◌≡◌, refl, sym, ap, ap₂, ◌∙◌}
use native.Mathlib.Nat.{zero-mod, zero-div}
use native.Mathlib.Omega.{arith}
use Prim.Native.Nat.{ℕ, zero, suc, ◌+◌, ◌/◌, ◌%◌, ◌≤◌, ◌<◌}
use Rattle.blend.specs.Blend.{errors_of}
use Rattle.blend.specs.declared.Found.{Found}
use Rattle.cells.specs.Cells.{start_cells}
use Rattle.history.proofs.Invariant.{at_start_lem, put_keeps, goes_on, halves}
use Rattle.history.proofs.Past.{none_word, left_word, one_more}
use Rattle.history.proofs.Sequence.{next_place}
use Rattle.integer.specs.Fill.{filled}
use Rattle.integer.specs.Order.{if}
use Rattle.refusal.specs.Paper.{Outcome, gives, refuses}
use Rattle.session.specs.Session.{fresh, opens, Asking, asks, Putting, puts, walked}
use Rattle.walk.specs.declared.PredictionResult.{PredictionResult}
use Rattle.weighted.specs.Memory.{needed, previous, current, updated}
use Rattle.weighted.specs.State.{nothing, answered}
use Rattle.channel.specs.Calls.{Before, one_pixel, calls, Sound}
use Rattle.channel.specs.Channel.{Told, Scan, seven, predicted, cells_of, value_of, after, pixel, scan}
use Rattle.channel.proofs.Lengths.{start_length, filled_cells_length}
use Rattle.channel.proofs.Neighbours.{set_words}
use Rattle.channel.proofs.Turns.{placed, at, Kept, in_row, sayable, ask_walks, put_done, ask_closed, put_closed}

-- before pixel k the calls have left what the definition says
module _ (t : Told) (records plane cells : List ℤ) (memory : List ℕ) where
  pub record Follows (k : ℕ) : Type 0 where
    pub plane_is : (calls t records plane cells memory k).plane ≡ (scan t plane cells memory k).plane
    pub contexts_are : (calls t records plane cells memory k).contexts ≡ (scan t plane cells memory k).contexts
    pub cells_are : (calls t records plane cells memory k).cells ≡ (scan t plane cells memory k).cells
    pub memory_is : (calls t records plane cells memory k).memory ≡ (scan t plane cells memory k).memory

-- an ask and a put, by what they are
one_pixel_lem : (b : Before) (references records : List ℤ) (residual : ℤ) (a : Asking) (p : Putting)
    → asks b.session b.plane references records b.cells b.memory ≡ a → puts a.session residual b.plane b.memory ≡ p
    → one_pixel b references records residual
    ≡ record { session = p.session; plane = p.plane; cells = a.cells; memory = p.memory; contexts = b.contexts ++ (a.says ∷ []) }
one_pixel_lem b references records residual a p asked put = rw (asked, put)

module _ (t : Told) (records plane cells : List ℤ) (memory : List ℕ) (rows : ℕ) (sound : Sound t records plane cells memory rows) where
  -- the calls have left what the scan has, and the session is at pixel k
  abbrev pub before : ℕ → Bool → Scan → Found → ℤ → ℕ → Before
  before k live s f g n =
      record { session = at t k live f g n; plane = s.plane; cells = s.cells; memory = s.memory; contexts = s.contexts }

  -- Before pixel k: the channel stands and the session is at pixel k, or a walk was refused and the session is closed, at some pixel.
  pub data Meets (k : ℕ) (s : Scan) (b : Before) : Type 0 where
    standing : (f : Found) (g : ℤ) (n : ℕ) → s.stands ≡ gives tt → Kept t records plane cells memory rows sound k s → b ≡ before k true s f g n → Meets k s b
    refused : (number : ℕ) (details : List ℤ) (j : ℕ) (f : Found) (g : ℤ) (n : ℕ) → s.stands ≡ refuses number details → j < length plane → length s.plane ≡ length plane
        → b ≡ before j false s f g n → Meets k s b

  -- ---- at opening

  abbrev zeros : List ℕ
  zeros = filled (λ i. 0) (needed t.width) memory

  pub opening : opens t.width t.header t.weights t.mask t.channel t.stream cells memory
      ≡ record {
        says = gives (fresh t.header t.width t.weights t.mask);
        cells = start_cells t.channel t.stream (length cells);
        memory = if t.weights zeros memory;
      }
  unfolding opens
  opening = simp (sound.arguments.header_in_range, sound.arguments.wide, sound.arguments.lent, le-leb 16 (length cells) sound.arguments.sixteen)

  first : Meets 0 (scan t plane cells memory 0) (calls t records plane cells memory 0)
  unfolding scan calls
  first = standing nothing (pos 0) 0 refl kept (rw opening (ap₂ beginning (sym (zero-mod t.width)) (sym (zero-div t.width))))
    where
      beginning : ℕ → ℕ → Before
      beginning column line =
          record {
            session = placed t column line true nothing (pos 0) 0;
            plane = plane;
            cells = start_cells t.channel t.stream (length cells);
            memory = if t.weights zeros memory;
            contexts = [];
          }

      kept : Kept t records plane cells memory rows sound 0 (scan t plane cells memory 0)
      kept =
          record {
            long = refl;
            words = sound.arguments.words;
            roomy = start_length t.channel t.stream (length cells);
            laid = λ on.
                let cleared : if t.weights zeros memory ≡ zeros = ap (λ (w : Bool). if w zeros memory) on in
                let lent : leb (needed t.width) (length memory) ≡ true = rw on at sound.arguments.lent in
                rw (cleared, zero-mod, zero-div)
                (at_start_lem t.width memory (leb-true (needed t.width) (length memory) lent) (previous t.width 0) (current t.width 0) (halves t.width 0));
            errors = λ j. none_word;
          }

  -- ---- a pixel of a channel that stands

  module _ (k : ℕ) (inside : k < length plane) (s : Scan) (kept : Kept t records plane cells memory rows sound k s) where
    kept_on : (r : PredictionResult) → Kept t records plane cells memory rows sound (suc k) (after t s k (gives r))
    kept_on r =
        let x = k % t.width in
        let y = k / t.width in
        let e = errors_of (predicted t s k).found (value_of t s k r) in
        let here = in_row t records plane cells memory rows sound k inside in
        let to = next_place t.width k here (eqb (x + 1) t.width) refl in
        record {
          long = length-set s.plane k (value_of t s k r) ∙ kept.long;
          words = set_words s.plane k (r.guess +ℤ t.residual k *ℤ pos r.multiplier) kept.words;
          roomy =
              filled_cells_length t.mask x y (seven t s k) (predicted t s k).property (t.references k) s.cells (omega (arith, sound.arguments.fits k, kept.roomy))
              ∙ kept.roomy;
          laid = λ on.
              let m = updated s.memory t.width x y e in
              let learnt : if t.weights m s.memory ≡ m = ap (λ (w : Bool). if w m s.memory) on in
              rw (learnt, to.0, to.1)
              (goes_on t.width (s.past ++ (e ∷ [])) m x y (eqb (x + 1) t.width) refl
              (put_keeps t.width s.past s.memory (previous t.width y) (current t.width y) x y (halves t.width y) (kept.laid on) here e));
          errors = one_more s.past e kept.errors (left_word (predicted t s k).found (value_of t s k r));
        }

    module _ (f : Found) (g : ℤ) (n : ℕ) where
      abbrev asked : Outcome PredictionResult → Asking
      asked o = walked (at t k true f g n) (answered (at t k true f g n).weighted (predicted t s k)) (cells_of t s k) o

      abbrev on : Before
      on = one_pixel (before k true s f g n) (t.references k) records (t.residual k)

      walks_on : (o : Outcome PredictionResult) → t.walk (cells_of t s k) (seven t s k) (predicted t s k).guess ≡ o → Meets (suc k) (after t s k o) on
      walks_on (gives r) is =
          let ask = ask_walks t records plane cells memory rows sound k inside s kept f g n ∙ ap asked is in
          standing (predicted t s k).found r.guess r.multiplier refl (kept_on r)
          (one_pixel_lem (before k true s f g n) (t.references k) records (t.residual k) (asked (gives r)) _ ask
          (put_done t records plane cells memory rows sound k inside s kept f g n r))
      walks_on (refuses number details) is =
          let ask = ask_walks t records plane cells memory rows sound k inside s kept f g n ∙ ap asked is in
          refused number details k f g n refl inside kept.long
          (one_pixel_lem (before k true s f g n) (t.references k) records (t.residual k) (asked (refuses number details)) _ ask
          (put_closed t records plane cells memory rows sound k inside f g n s (t.residual k) kept.long))

  -- ---- all pixels

  next : (k : ℕ) → k < length plane → (s : Scan) (b : Before) → Meets k s b
      → Meets (suc k) (pixel t s k s.stands) (one_pixel b (t.references k) records (t.residual k))
  next k inside s b (standing f g n stands kept is) = rw (is, stands) (walks_on k inside s kept f g n _ refl)
  next k inside s b (refused number details j f g n stands in_plane long is) =
      rw (is, stands)
      (refused number details j f g n refl in_plane long
      (one_pixel_lem (before j false s f g n) (t.references k) records (t.residual k) _ _
      (ask_closed t records plane cells memory rows sound j in_plane f g n s (t.references k) long (sayable t records plane cells memory rows sound k inside))
      (put_closed t records plane cells memory rows sound j in_plane f g n s (t.residual k) long)))

  pub meets : (k : ℕ) → k ≤ length plane → Meets k (scan t plane cells memory k) (calls t records plane cells memory k)
  unfolding scan calls
  meets zero early = first
  meets (suc k) early = next k early (scan t plane cells memory k) (calls t records plane cells memory k) (meets k (omega arith))

  -- ---- the theorem

  pub follows : (k : ℕ) → k ≤ length plane → Follows t records plane cells memory k
  follows k early = by (meets k early)
    where
      by : Meets k (scan t plane cells memory k) (calls t records plane cells memory k) → Follows t records plane cells memory k
      by (standing f g n stands kept is) = record { plane_is = rw is; contexts_are = rw is; cells_are = rw is; memory_is = rw is }
      by (refused number details j f g n stands in_plane long is) = record { plane_is = rw is; contexts_are = rw is; cells_are = rw is; memory_is = rw is }
