-- The pixel at a session's place, part by part, and what is known past the tests of each call.
use borrow.Author.Tests.{leb-true, ltb-true, le-leb, lt-ltb, le-ltb, eq-eqb}
use lib.Dec.{leb, ltb, eqb}
use lib.IntN.{ℤ}
use lib.ListN.{length, take, drop, length-drop}
use lib.Seq.{length-take-le}
use mathlib.Core.Bool.{Bool, true, false, ◌&&◌, not}
use mathlib.Core.List.{List}
use mathlib.Core.Path.{◌≡◌, refl, sym, ◌∙◌}
use native.Mathlib.Omega.{arith}
use Prim.Native.Nat.{ℕ, ◌+◌, ◌-◌, ◌*◌, ◌/◌, ◌%◌, ◌≤◌, ◌<◌, ◌^◌}
use Rattle.blend.specs.Blend.{in_range, possible}
use Rattle.blend.specs.declared.Prediction.{Prediction}
use Rattle.blend.specs.declared.WeightedHeader.{WeightedHeader}
use Rattle.cells.specs.Cells.{cells_needed, outcome}
use Rattle.colour.proofs.RowWithin.{within}
use Rattle.colour.specs.Rows.{is_row, row_of}
use Rattle.flat.specs.Records.{counted}
use Rattle.integer.proofs.Tests.{and_left, and_right, both}
use Rattle.integer.specs.Fill.{filled}
use Rattle.integer.specs.Order.{if}
use Rattle.nodes.specs.Nodes.{then}
use Rattle.predict.specs.Neighbours.{has_width, neighbours}
use Rattle.predict.specs.declared.neighbours.PredictionData.{PredictionData}
use Rattle.refusal.specs.Paper.{Outcome, gives, refuses}
use Rattle.weighted.proofs.Allowed.{may, test_passed}
use Rattle.weighted.specs.Memory.{needed}
use Rattle.weighted.specs.State.{test, is_width, is_place, at_start, answered, predicted_at, onward, puts}
use Rattle.session.specs.Session.{width, column, line, is_pixel, is_lent, is_due, some_records, has_room, may_open, may_ask, may_put, rows_of, silent, answered_by, learnt}
use Rattle.session.specs.Weights.{starts, starts_on, finds, learns, learns_on}
use Rattle.session.specs.declared.Session.{Session}

pub record Pixel (s : Session) (size : ℕ) : Type 0 where
  pub some : 1 ≤ width s
  pub narrow : width s ≤ 65536
  pub inside : column s < width s
  pub early : line s < 2 ^ 30
  pub there : is_row size (width s) (line s) ≡ true
  pub within : line s * width s + width s ≤ size

pub pixel : (s : Session) (size : ℕ) → is_pixel s size ≡ true → Pixel s size
pixel s size e =
    let a = leb 1 (width s) in
    let b = leb (width s) 65536 in
    let c = eqb (size % width s) 0 in
    let d = ltb (line s) (2 ^ 30) in
    let f = ltb (line s) (size / width s) in
    let row = and_left (is_row size (width s) (line s)) (ltb (column s) (width s)) e in
    let four = and_left (a && b && c && d) f row in
    let three = and_left (a && b && c) d four in
    let two = and_left (a && b) c three in
    record {
      some = leb-true 1 (width s) (and_left a b two);
      narrow = leb-true (width s) 65536 (and_right a b two);
      inside = ltb-true (column s) (width s) (and_right (is_row size (width s) (line s)) (ltb (column s) (width s)) e);
      early = ltb-true (line s) (2 ^ 30) (and_right (a && b && c) d four);
      there = row;
      within = within size (width s) (line s) row;
    }

-- ---- the tests of an ask

-- past header, place, turn and records
pub past_turn : {a b c : Bool} {o : Outcome Unit} → a ≡ true → b ≡ true → c ≡ true → o ≡ gives tt → (rest : Outcome Unit)
    → test a 12 0 (test b 11 0 (test c 13 0 (then o rest))) ≡ rest
past_turn p q r e rest = rw (p, q, r, e)

then_passed : (o next : Outcome Unit) → then o next ≡ gives tt → (o ≡ gives tt) × (next ≡ gives tt)
then_passed (gives tt) next e = (refl, e)
then_passed (refuses number details) next e = absurd (let z : ◌≡◌ {A = ℕ} 0 1 = cc in omega arith)

pub record AskGranted (s : Session) (size references : ℕ) (cells lent : ℕ) : Type 0 where
  pub header_in_range : in_range s.weighted.header ≡ true
  pub is_pixel_lem : is_pixel s size ≡ true
  pub placed : Pixel s size
  pub sayable : cells_needed s.mask references ≤ 4294967295
  pub living : s.live ≡ true
  pub turn : not s.weighted.asked ≡ true
  pub memory : is_lent s.weights (width s) lent ≡ true
  pub room : cells_needed s.mask references ≤ cells

pub ask_granted : (s : Session) (size references : ℕ) (records : List ℤ) (cells lent : ℕ) → may_ask s size references records cells lent ≡ gives tt
    → AskGranted s size references cells lent
ask_granted s size references records cells lent e =
    let need = cells_needed s.mask references in
    let header = test_passed (in_range s.weighted.header) 12 0 _ e in
    let place = test_passed (is_pixel s size && leb need 4294967295) 11 0 _ header.1 in
    let its_turn = test_passed (s.live && not s.weighted.asked) 13 0 _ place.1 in
    let some = then_passed (some_records (counted records)) (has_room s references cells lent) its_turn.1 in
    let memory = test_passed (is_lent s.weights (width s) lent) 8 (needed (width s)) _ some.1 in
    let room = test_passed (leb need cells) 10 need _ memory.1 in
    record {
      header_in_range = header.0;
      is_pixel_lem = and_left (is_pixel s size) (leb need 4294967295) place.0;
      placed = pixel s size (and_left (is_pixel s size) (leb need 4294967295) place.0);
      sayable = leb-true need 4294967295 (and_right (is_pixel s size) (leb need 4294967295) place.0);
      living = and_left s.live (not s.weighted.asked) its_turn.0;
      turn = and_right s.live (not s.weighted.asked) its_turn.0;
      memory = memory.0;
      room = leb-true need cells room.0;
    }

-- ---- past the tests, no part refuses

module _ (s : Session) {size : ℕ} (p : Pixel s size) where
  place : is_place s.weighted ≡ true
  place =
      both (both (both (le-leb 1 (width s) p.some) (le-leb (width s) 65536 p.narrow)) (lt-ltb (column s) (width s) p.inside))
      (lt-ltb (line s) (2 ^ 30) p.early)

  module _ (references : ℕ) (cells : ℕ) (sayable : cells_needed s.mask references ≤ 4294967295) (room : cells_needed s.mask references ≤ cells) where
    pub fills : outcome s.mask (column s) (line s) references cells ≡ gives tt
    fills =
        let narrow : column s < 65536 = omega (arith, p.inside, p.narrow) in
        rw (lt-ltb (column s) 65536 narrow, lt-ltb (line s) (2 ^ 30) p.early, le-leb (cells_needed s.mask references) 4294967295 sayable, le-ltb cells (cells_needed s.mask references) room)

-- a row that is there is as long as the width, and the rows above it are there
row_long : (plane : List ℤ) (w y : ℕ) → is_row (length plane) w y ≡ true → length (row_of plane w y) ≡ w
row_long plane w y there =
    let fits = within (length plane) w y there in
    rw there (length-take-le w (drop (y * w) plane) (omega (arith, length-drop (y * w) plane, fits)))

row_above : (size w y k : ℕ) → is_row size w y ≡ true → is_row size w (y - k) ≡ true
row_above size w y k there =
    let a = leb 1 w && leb w 65536 && eqb (size % w) 0 in
    let four = and_left (a && ltb y (2 ^ 30)) (ltb y (size / w)) there in
    let early = ltb-true y (2 ^ 30) (and_right a (ltb y (2 ^ 30)) four) in
    let below = ltb-true y (size / w) (and_right (a && ltb y (2 ^ 30)) (ltb y (size / w)) there) in
    both (both (and_left a (ltb y (2 ^ 30)) four) (lt-ltb (y - k) (2 ^ 30) (omega arith))) (lt-ltb (y - k) (size / w) (omega arith))

-- their words, and where they end
pub own_words : (plane : List ℤ) (w y : ℕ) → is_row (length plane) w y ≡ true → row_of plane w y ≡ take w (drop (y * w) plane)
own_words plane w y there = rw there

module _ (plane : List ℤ) (w y k : ℕ) (there : is_row (length plane) w y ≡ true) where
  pub row_words : row_of plane w (y - k) ≡ take w (drop ((y - k) * w) plane)
  row_words = rw (row_above (length plane) w y k there)

  pub row_room : (y - k) * w + w ≤ length plane
  row_room = within (length plane) w (y - k) (row_above (length plane) w y k there)

has_width_lem : (least y : ℕ) (row : List ℤ) (w : ℕ) → length row ≡ w → has_width least y row w ≡ true
has_width_lem least y row w e = by (leb least y)
  where
    by : (t : Bool) → if t (eqb (length row) w) true ≡ true
    by true = eq-eqb (length row) w e
    by false = refl

pub fetches : (s : Session) (plane : List ℤ) → Pixel s (length plane)
    → neighbours (row_of plane (width s) (line s)) (row_of plane (width s) (line s - 1)) (row_of plane (width s) (line s - 2)) (column s) (line s)
    ≡ gives (rows_of s plane)
fetches s plane p =
    let w = width s in
    let y = line s in
    let row = row_of plane w y in
    let long = row_long plane w y p.there in
    let up : (k : ℕ) → length (row_of plane w (y - k)) ≡ length row = λ k. row_long plane w (y - k) (row_above (length plane) w y k p.there) ∙ sym long in
    let some : 1 ≤ length row = omega (arith, p.some) in
    let narrow : length row ≤ 65536 = omega (arith, p.narrow) in
    let inside : column s < length row = omega (arith, p.inside) in
    let domain =
    both (both (both (both (both (le-leb 1 (length row) some) (le-leb (length row) 65536 narrow)) (lt-ltb (column s) (length row) inside)) (lt-ltb y (2 ^ 30) p.early))
    (has_width_lem 1 y (row_of plane w (y - 1)) (length row) (up 1))) (has_width_lem 2 y (row_of plane w (y - 2)) (length row) (up 2))
    in
    rw domain

-- ---- the weighted state

-- what is found at the session's place
abbrev pub found_at : Session → List ℕ → PredictionData → Prediction
found_at s m d = if s.weights (predicted_at s.weighted m d) silent

pub finds_so : (s : Session) (size references : ℕ) (cells : ℕ) (m : List ℕ) (d : PredictionData) → AskGranted s size references cells (length m)
    → finds s.weights s.weighted m d ≡ gives (found_at s m d)
finds_so s size references cells m d g = by s.weights g.memory
  where
    by : (t : Bool) → is_lent t (width s) (length m) ≡ true → finds t s.weighted m d ≡ gives (if t (predicted_at s.weighted m d) silent)
    by true enough = may s.weighted (not s.weighted.asked) (length m) _ g.header_in_range (place s g.placed) g.turn (leb-true (needed (width s)) (length m) enough)
    by false enough = refl

-- ---- the tests of a put

pub record PutGranted (s : Session) (size lent : ℕ) : Type 0 where
  pub header_in_range : in_range s.weighted.header ≡ true
  pub placed : Pixel s size
  pub due : is_due s ≡ true
  pub memory : is_lent s.weights (width s) lent ≡ true

pub put_granted : (s : Session) (size lent : ℕ) → may_put s size lent ≡ gives tt → PutGranted s size lent
put_granted s size lent e =
    let header = test_passed (in_range s.weighted.header) 12 0 _ e in
    let place = test_passed (is_pixel s size) 11 0 _ header.1 in
    let due = test_passed (is_due s) 13 0 _ place.1 in
    let memory = test_passed (is_lent s.weights (width s) lent) 8 (needed (width s)) _ due.1 in
    record { header_in_range = header.0; placed = pixel s size place.0; due = due.0; memory = memory.0 }

module _ (s : Session) (size : ℕ) (m : List ℕ) (g : PutGranted s size (length m)) where
  pub learns_on_lem : learns s.weights s.weighted m ≡ gives (onward s.weighted)
  learns_on_lem = by s.weights g.memory (and_right s.live _ g.due)
    where
      by : (t : Bool) → is_lent t (width s) (length m) ≡ true → (s.weighted.asked && if t (possible s.weighted.found) true) ≡ true
          → learns t s.weighted m ≡ gives (onward s.weighted)
      by true enough due = may s.weighted (s.weighted.asked && possible s.weighted.found) (length m) _ g.header_in_range (place s g.placed) due (leb-true (needed (width s)) (length m) enough)
      by false enough due = rw (place s g.placed)

  pub learns_so : (v : ℤ) → learns_on s.weights s.weighted m v ≡ learnt s m v
  learns_so v = by s.weights g.memory (and_right s.live _ g.due)
    where
      by : (t : Bool) → is_lent t (width s) (length m) ≡ true → (s.weighted.asked && if t (possible s.weighted.found) true) ≡ true
          → learns_on t s.weighted m v ≡ learnt (record { weighted = s.weighted; weights = t; mask = s.mask; live = s.live; guess = s.guess; multiplier = s.multiplier }) m v
      by true enough due =
          let on : puts s.weighted m ≡ gives (onward s.weighted) =
          may s.weighted (s.weighted.asked && possible s.weighted.found) (length m) _ g.header_in_range (place s g.placed) due (leb-true (needed (width s)) (length m) enough)
          in
          rw on
      by false enough due = refl

-- ---- the tests of an opening

pub record OpenGranted (h : WeightedHeader) (w : ℕ) (weights : Bool) (cells lent : ℕ) : Type 0 where
  pub header_in_range : in_range h ≡ true
  pub wide : is_width w ≡ true
  pub memory : is_lent weights w lent ≡ true
  pub sixteen : 16 ≤ cells

pub open_granted : (h : WeightedHeader) (w : ℕ) (weights : Bool) (cells lent : ℕ) → may_open h w weights cells lent ≡ gives tt → OpenGranted h w weights cells lent
open_granted h w weights cells lent e =
    let header = test_passed (in_range h) 12 0 _ e in
    let wide = test_passed (is_width w) 11 0 _ header.1 in
    let memory = test_passed (is_lent weights w lent) 8 (needed w) _ wide.1 in
    let sixteen = test_passed (leb 16 cells) 10 16 _ memory.1 in
    record { header_in_range = header.0; wide = wide.0; memory = memory.0; sixteen = leb-true 16 cells sixteen.0 }

pub starts_so : (h : WeightedHeader) (w : ℕ) (weights : Bool) (cells : ℕ) (m : List ℕ) → OpenGranted h w weights cells (length m)
    → (starts weights h w m ≡ gives (at_start h w)) × (starts_on weights h w m ≡ if weights (filled (λ k. 0) (needed w) m) m)
starts_so h w weights cells m g = by weights g.memory
  where
    by : (t : Bool) → is_lent t w (length m) ≡ true → (starts t h w m ≡ gives (at_start h w)) × (starts_on t h w m ≡ if t (filled (λ k. 0) (needed w) m) m)
    by true enough = (rw (g.header_in_range, g.wide, enough), rw (g.header_in_range, g.wide, enough))
    by false enough = (refl, refl)
