-- One pixel of a row call whose ask has passed its tests: its walk is refused, or its put is not, and then the next pixel's ask passes its
-- tests too.
use borrow.Author.Tests.{le-leb, lt-ltb, ne_eqb}
use lib.Dec.{leb, ltb}
use lib.IntN.{ℤ, pos, ◌+ℤ◌, ◌*ℤ◌}
use lib.ListN.{length, get_or, set, length-set}
use lib.Signed.{mag}
use mathlib.Core.Bool.{Bool, true, false, ◌&&◌, not}
use mathlib.Core.List.{List}
use mathlib.Core.Path.{◌≡◌, refl, ap, ◌∙◌}
use native.Mathlib.Omega.{arith}
use Prim.Native.Nat.{ℕ, suc, ◌+◌, ◌-◌, ◌*◌, ◌^◌, ◌<◌}
use Rattle.blend.specs.Blend.{in_range, possible, errors_of}
use Rattle.blend.specs.declared.PixelErrors.{PixelErrors}
use Rattle.cells.specs.Cells.{cells_needed, filled_cells}
use Rattle.colour.specs.Rows as colour
use Rattle.flat.specs.FlatWalk.{flat_of}
use Rattle.history.proofs.Cells.{stored_length, added_length}
use Rattle.history.proofs.Sequence.{possible_found}
use Rattle.integer.proofs.Wrap.{wrap_below}
use Rattle.integer.specs.Order.{if}
use Rattle.predict.specs.Neighbours.{present}
use Rattle.predict.specs.declared.neighbours.PredictionData.{PredictionData}
use Rattle.refusal.specs.Paper.{Outcome, gives, refuses}
use Rattle.row.specs.Row.{Row, row_of, halted, part_of, pixels_from}
use Rattle.session.proofs.Granted.{AskGranted, ask_granted}
use Rattle.session.specs.Session.{width, column, line, is_pixel, may_ask, rows_of, silent, answered_by, waiting, closed, ask_by, walked, asks, passed, unpacked, learnt, puts}
use Rattle.session.specs.declared.Session.{Session}
use Rattle.walk.specs.declared.PredictionResult.{PredictionResult}
use Rattle.weighted.proofs.Allowed.{test_passed}
use Rattle.weighted.specs.Memory.{word, at_n, at_nw, at_ne, errors_read, sums_read, error_at, current, previous, updated}
use Rattle.weighted.specs.State.{Answered, predicted_at, onward}
use Rattle.channel.proofs.Lengths.{filled_cells_length}
use Rattle.channel.proofs.Neighbours.{AreWords, set_words, row_words, neighbour_words}

-- ---- what a memory holds is read as 32-bit words

chosen_small : (t : Bool) (z : ℤ) → mag z < 2 ^ 31 → mag (if t z (pos 0)) < 2 ^ 31
chosen_small true z small = small
chosen_small false z small = omega arith

error_small : (m : List ℕ) (k : ℕ) → mag (error_at m k) < 2 ^ 31
unfolding error_at
error_small m k = (wrap_below (pos (word m k 0))).size

errors_read_small : (m : List ℕ) (w x y : ℕ)
    → (mag (errors_read m w x y).w < 2 ^ 31) × (mag (errors_read m w x y).n < 2 ^ 31) × (mag (errors_read m w x y).nw < 2 ^ 31) × (mag (errors_read m w x y).ne < 2 ^ 31)
unfolding errors_read
errors_read_small m w x y = (
  chosen_small (ltb 0 x) _ (error_small m (current w y + x - 1)),
  error_small m (at_n m w x y),
  error_small m (at_nw m w x y),
  error_small m (at_ne m w x y),
)

-- ---- one pixel, from what the pixels before it left

pub record Left : Type 0 where
  pub session : Session
  pub plane : List ℤ
  pub contexts : List ℕ
  pub cells : List ℤ
  pub memory : List ℕ

-- what the row call is given, and each pixel's share of the reference cells
pub record Given : Type 0 where
  pub residuals : List ℤ
  pub references : List ℤ
  pub records : List ℤ
  pub each : ℕ

module _ (c : Given) where
  abbrev pub pixels : ℕ → ℕ → Left → Row
  pixels n k b = pixels_from c.residuals c.references c.records c.each n k b.session b.plane b.contexts b.cells b.memory

  abbrev pub share : ℕ → List ℤ
  share k = part_of c.residuals c.references c.records c.each k

  abbrev pub tests : Left → Outcome Unit
  tests b = may_ask b.session (length b.plane) c.each c.records (length b.cells) (length b.memory)

  -- the ask of pixel k passes its tests
  pub record Passes (k : ℕ) (b : Left) : Type 0 where
    pub long : length (share k) ≡ c.each
    pub words : AreWords b.plane
    pub may : tests b ≡ gives tt

  module _ (k : ℕ) (b : Left) (ok : Passes k b) where
    abbrev s : Session
    s = b.session

    abbrev d : PredictionData
    d = rows_of s b.plane

    abbrev a : Answered
    a = answered_by s b.memory d

    abbrev full : List ℤ
    full = filled_cells s.mask (column s) (line s) d a.property (share k) b.cells

    abbrev pub walk : Outcome PredictionResult
    walk = flat_of c.records full d a.guess

    granted : AskGranted s (length b.plane) c.each (length b.cells) (length b.memory)
    granted = ask_granted s (length b.plane) c.each c.records (length b.cells) (length b.memory) ok.may

    ask_walks : asks s b.plane (share k) c.records b.cells b.memory ≡ walked s a full walk
    unfolding asks
    ask_walks =
        let passes : may_ask s (length b.plane) (length (share k)) c.records (length b.cells) (length b.memory) ≡ gives tt = rw ok.long ok.may in
        ap (λ (o : Outcome Unit). ask_by o (walked s a full walk) s b.cells) passes

    -- a walk that is refused ends the row
    module _ (number : ℕ) (details : List ℤ) (is : walk ≡ refuses number details) where
      pub ask_ends : asks s b.plane (share k) c.records b.cells b.memory ≡ record { says = refuses number details; session = closed s; cells = full }
      ask_ends = ask_walks ∙ ap (walked s a full) is

      pub row_ends : (n : ℕ) → pixels (suc n) k b ≡ row_of (halted k number details (closed s)) b.plane b.contexts full b.memory
      unfolding pixels_from
      row_ends n = rw ask_ends

    -- it is no prediction that a put would refuse
    could : if s.weights (possible a.state.found) true ≡ true
    could = by s.weights
      where
        above : (n : ℕ) → AreWords (present n (line s) (colour.row_of b.plane (width s) (line s - n)))
        above n = row_words b.plane (width s) n (line s) (line s - n) ok.words

        same_row : AreWords (colour.row_of b.plane (width s) (line s))
        same_row = rw (le-leb 0 (line s) (omega arith)) at (row_words b.plane (width s) 0 (line s) (line s) ok.words)

        by : (t : Bool) → if t (possible (if t (predicted_at s.weighted b.memory d) silent).found) true ≡ true
        by true =
            possible_found s.weighted.header d (errors_read b.memory (width s) (column s) (line s)) (sums_read b.memory (width s) (column s) (line s)) granted.header_in_range
            (neighbour_words (colour.row_of b.plane (width s) (line s)) _ _ (column s) same_row (above 1) (above 2))
            (errors_read_small b.memory (width s) (column s) (line s))
        by false = refl

    module _ (r : PredictionResult) where
      abbrev asked : Session
      asked = waiting s a r

      abbrev value : ℤ
      value = unpacked asked (get_or c.residuals k (pos 0))

      abbrev pub on : Left
      on =
          record {
            session = passed asked (onward a.state);
            plane = set b.plane (line s * width s + column s) value;
            contexts = set b.contexts k r.context;
            cells = full;
            memory = learnt asked b.memory value;
          }

      put_passes : puts asked (get_or c.residuals k (pos 0)) b.plane b.memory
          ≡ record { says = gives tt; session = on.session; plane = on.plane; memory = on.memory }
      unfolding puts
      put_passes = simp (granted.header_in_range, granted.is_pixel_lem, could, granted.memory)

      pub goes_on : (n : ℕ) → walk ≡ gives r → pixels (suc n) k b ≡ pixels n (k + 1) on
      unfolding pixels_from
      goes_on n is = rw (ask_walks ∙ ap (walked s a full) is, put_passes)

      -- ---- the next pixel's tests pass too, as long as the row has one

      still_words : AreWords on.plane
      still_words = set_words b.plane (line s * width s + column s) (r.guess +ℤ get_or c.residuals k (pos 0) *ℤ pos r.multiplier) ok.words

      cells_long : length full ≡ length b.cells
      cells_long = filled_cells_length s.mask (column s) (line s) d a.property (share k) b.cells (rw ok.long granted.room)

      memory_long : length (learnt asked b.memory value) ≡ length b.memory
      memory_long = by s.weights
        where
          errors : PixelErrors
          errors = errors_of a.state.found value

          by : (t : Bool) → length (if t (updated b.memory (width s) (column s) (line s) errors) b.memory) ≡ length b.memory
          by true = added_length _ (previous (width s) (line s) + column s + 1) errors.sub ∙ stored_length b.memory (current (width s) (line s) + column s) errors
          by false = refl

      pub column_on : column s + 1 < width s → column on.session ≡ column s + 1
      column_on more = rw (ne_eqb (column s + 1) (width s) (λ e. omega arith))

      tests_on : column s + 1 < width s → tests on ≡ gives tt
      tests_on more =
          let header = test_passed (in_range s.weighted.header) 12 0 _ ok.may in
          let needs = leb (cells_needed s.mask c.each) 4294967295 in
          let place = test_passed (is_pixel s (length b.plane) && needs) 11 0 _ header.1 in
          let turn = test_passed (s.live && not s.weighted.asked) 13 0 _ place.1 in
          rw (
            length-set b.plane (line s * width s + column s) value,
            cells_long,
            memory_long,
            ne_eqb (column s + 1) (width s) (λ e. omega arith),
            granted.header_in_range,
            granted.placed.there,
            lt-ltb (column s + 1) (width s) more,
            le-leb (cells_needed s.mask c.each) 4294967295 granted.sayable,
          )
          turn.1

      pub passes_on : length (share (k + 1)) ≡ c.each → column s + 1 < width s → Passes (k + 1) on
      passes_on long more = record { long = long; words = still_words; may = tests_on more }
