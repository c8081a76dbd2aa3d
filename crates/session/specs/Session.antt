-- Module 10 of document 01: a channel, pixel after pixel. Each call is first its tests, in the paper's order, then what the modules below
-- say of the pixel at the session's place.
use Rattle.std.specs.Prelude.{Bool, true, false, ◌&&◌, not, List, [], ◌∷◌, ◌≡◌, ℕ, ◌+◌, ◌-◌, ◌*◌, ltb, leb, eqb, ℤ, pos, ◌+ℤ◌, ◌*ℤ◌, length, set, Result}
use Rattle.blend.specs.Blend.{in_range, errors_of, possible}
use Rattle.blend.specs.declared.Prediction.{Prediction}
use Rattle.blend.specs.declared.WeightedHeader.{WeightedHeader}
use Rattle.cells.specs.Cells.{start_cells, cells_needed, filled_cells}
use Rattle.colour.specs.Rows.{is_row, row_of}
use Rattle.flat.specs.FlatWalk.{flat_of}
use Rattle.flat.specs.Records.{counted}
use Rattle.integer.specs.Fill.{filled}
use Rattle.integer.specs.Order.{if}
use Rattle.integer.specs.Word.{wrap}
use Rattle.nodes.specs.Nodes.{then}
use Rattle.predict.specs.Neighbours.{fetched, present}
use Rattle.predict.specs.declared.neighbours.PredictionData.{PredictionData}
use Rattle.refusal.specs.Paper.{Outcome, gives, refuses, said, one_result, one_value}
use Rattle.refusal.specs.declared.Refusal.{Refusal}
use Rattle.walk.specs.declared.PredictionResult.{PredictionResult}
use Rattle.weighted.specs.Memory.{needed, updated}
use Rattle.weighted.specs.State.{test, is_width, at_start, nothing, Answered, answered, predicted_at, onward}
use Rattle.weighted.specs.declared.state.WeightedState.{WeightedState}
use Rattle.session.specs.declared.Session.{Session}

-- the words of memory that are lent suffice; with weights off none is needed
abbrev pub is_lent : Bool → ℕ → ℕ → Bool
is_lent weights width lent = if weights (leb (needed width) lent) true

-- ---- opening: 12, 11, 8, 10

abbrev pub may_open : WeightedHeader → ℕ → Bool → ℕ → ℕ → Outcome Unit
may_open h width weights cells lent =
    test (in_range h) 12 0
    (test (is_width width) 11 0
    (test (is_lent weights width lent) 8 (needed width)
    (test (leb 16 cells) 10 16 (gives tt))))

abbrev pub fresh : WeightedHeader → ℕ → Bool → ℕ → Session
fresh h width weights mask =
    record { weighted = at_start h width; weights = weights; mask = mask; live = true; guess = pos 0; multiplier = 0 }

-- what an opening says and leaves
pub record Opening : Type 0 where
  pub says : Outcome Session
  pub cells : List ℤ
  pub memory : List ℕ

abbrev pub open_by : Outcome Unit → Opening → List ℤ → List ℕ → Opening
open_by (gives done) next cells m = next
open_by (refuses number details) next cells m = record { says = refuses number details; cells = cells; memory = m }

-- cells 0 and 1 are the two numbers, the others are cleared, and so is the memory that is needed
unfoldable pub opens : ℕ → WeightedHeader → Bool → ℕ → ℤ → ℤ → List ℤ → List ℕ → Opening
opens width h weights mask channel stream cells m =
    open_by (may_open h width weights (length cells) (length m))
    (record {
      says = gives (fresh h width weights mask);
      cells = start_cells channel stream (length cells);
      memory = if weights (filled (λ k. 0) (needed width) m) m;
    })
    cells m

-- ---- the pixel at the session's place

-- with weights off guess and property are 0
abbrev pub silent : Prediction
silent = record { found = nothing; guess = pos 0; property = pos 0 }

module _ (s : Session) where
  abbrev pub width : ℕ
  width = s.weighted.width

  abbrev pub column : ℕ
  column = s.weighted.x

  abbrev pub line : ℕ
  line = s.weighted.y

  -- it lies in a plane of this many words
  abbrev pub is_pixel : ℕ → Bool
  is_pixel size = is_row size width line && ltb column width

  -- its neighbours: rows that are not there are empty
  abbrev pub rows_of : List ℤ → PredictionData
  rows_of plane =
      fetched (row_of plane width line) (present 1 line (row_of plane width (line - 1))) (present 2 line (row_of plane width (line - 2))) column

  -- what the weighted state answers
  abbrev pub answered_by : List ℕ → PredictionData → Answered
  answered_by m d = answered s.weighted (if s.weights (predicted_at s.weighted m d) silent)

-- ---- ask: 12, 11, 13, 1, 2, 5, 8, 10, then the walk

-- 1 and 2, then 5
abbrev pub some_records : Outcome ℕ → Outcome Unit
some_records (refuses number details) = refuses number details
some_records (gives count) = test (not (eqb count 0)) 5 0 (gives tt)

-- memory, then cells
abbrev pub has_room : Session → ℕ → ℕ → ℕ → Outcome Unit
has_room s references cells lent =
    test (is_lent s.weights (width s) lent) 8 (needed (width s))
    (test (leb (cells_needed s.mask references) cells) 10 (cells_needed s.mask references) (gives tt))

-- 32 bits must say how many cells are needed
abbrev pub may_ask : Session → ℕ → ℕ → List ℤ → ℕ → ℕ → Outcome Unit
may_ask s size references records cells lent =
    test (in_range s.weighted.header) 12 0
    (test (is_pixel s size && leb (cells_needed s.mask references) 4294967295) 11 0
    (test (s.live && not s.weighted.asked) 13 0
    (then (some_records (counted records)) (has_room s references cells lent))))

-- the session remembers what was found, for the put
abbrev pub waiting : Session → Answered → PredictionResult → Session
waiting s a r =
    record {
      weighted = a.state;
      weights = s.weights;
      mask = s.mask;
      live = true;
      guess = r.guess;
      multiplier = r.multiplier;
    }

abbrev pub closed : Session → Session
closed s =
    record { weighted = s.weighted; weights = s.weights; mask = s.mask; live = false; guess = s.guess; multiplier = s.multiplier }

-- what an ask says, the context or a refusal, and what it leaves
pub record Asking : Type 0 where
  pub says : Outcome ℕ
  pub session : Session
  pub cells : List ℤ

-- a refusal of the arguments changes nothing
abbrev pub ask_by : Outcome Unit → Asking → Session → List ℤ → Asking
ask_by (gives done) next s cells = next
ask_by (refuses number details) next s cells = record { says = refuses number details; session = s; cells = cells }

-- a refusal of the walk closes the session; the cells are filled either way
abbrev pub walked : Session → Answered → List ℤ → Outcome PredictionResult → Asking
walked s a cells (gives r) = record { says = gives r.context; session = waiting s a r; cells = cells }
walked s a cells (refuses number details) = record { says = refuses number details; session = closed s; cells = cells }

-- the cells of the pixel at the session's place, filled
unfoldable pub pixel_cells : Session → PredictionData → ℤ → List ℤ → List ℤ → List ℤ
pixel_cells s d property references cells = filled_cells s.mask (column s) (line s) d property references cells

abbrev pub walks_from : Session → PredictionData → Answered → List ℤ → List ℤ → List ℤ → Asking
walks_from s d a references records cells =
    let full = filled_cells s.mask (column s) (line s) d a.property references cells in
    walked s a full (flat_of records full d a.guess)

unfoldable pub asks : Session → List ℤ → List ℤ → List ℤ → List ℤ → List ℕ → Asking
asks s plane references records cells m =
    ask_by (may_ask s (length plane) (length references) records (length cells) (length m))
    (walks_from s (rows_of s plane) (answered_by s m (rows_of s plane)) references records cells)
    s cells

-- ---- put: 12, 11, 13, 8

-- a session with what no ask can have found does not wait for a put
abbrev pub is_due : Session → Bool
is_due s = s.live && (s.weighted.asked && if s.weights (possible s.weighted.found) true)

abbrev pub may_put : Session → ℕ → ℕ → Outcome Unit
may_put s size lent =
    test (in_range s.weighted.header) 12 0
    (test (is_pixel s size) 11 0
    (test (is_due s) 13 0
    (test (is_lent s.weights (width s) lent) 8 (needed (width s)) (gives tt))))

-- the low 32 bits of guess + residual * multiplier
abbrev pub unpacked : Session → ℤ → ℤ
unpacked s residual = wrap (s.guess +ℤ residual *ℤ pos s.multiplier)

-- the session over a state one pixel on
abbrev pub passed : Session → WeightedState → Session
passed s next =
    record {
      weighted = next;
      weights = s.weights;
      mask = s.mask;
      live = s.live;
      guess = s.guess;
      multiplier = s.multiplier;
    }

-- what a put says and leaves
pub record Putting : Type 0 where
  pub says : Outcome Unit
  pub session : Session
  pub plane : List ℤ
  pub memory : List ℕ

abbrev pub put_by : Outcome Unit → Putting → Session → List ℤ → List ℕ → Putting
put_by (gives done) next s plane m = next
put_by (refuses number details) next s plane m = record { says = refuses number details; session = s; plane = plane; memory = m }

-- the value goes into the pixel and, with weights on, to the weighted state
abbrev pub learnt : Session → List ℕ → ℤ → List ℕ
learnt s m v = if s.weights (updated m (width s) (column s) (line s) (errors_of s.weighted.found v)) m

unfoldable pub puts : Session → ℤ → List ℤ → List ℕ → Putting
puts s residual plane m =
    put_by (may_put s (length plane) (length m))
    (record {
      says = gives tt;
      session = passed s (onward s.weighted);
      plane = set plane (line s * width s + column s) (unpacked s residual);
      memory = learnt s m (unpacked s residual);
    })
    s plane m

-- ---- determinacy

module _ (width : ℕ) (h : WeightedHeader) (weights : Bool) (mask : ℕ) (channel stream : ℤ) (cells : List ℤ) (m : List ℕ) where
  abbrev opening : Opening
  opening = opens width h weights mask channel stream cells m

  pub opens_determined : {r t : Result Session Refusal} {a b : List ℤ} {x y : List ℕ}
      → said r ≡ opening.says → a ≡ opening.cells → x ≡ opening.memory → said t ≡ opening.says → b ≡ opening.cells → y ≡ opening.memory
      → (r ≡ t) × (a ≡ b) × (x ≡ y)
  opens_determined {r} {t} p p₁ p₂ q q₁ q₂ = (one_result r t p q, one_value p₁ q₁, one_value p₂ q₂)

module _ (s : Session) (plane references records cells : List ℤ) (m : List ℕ) where
  abbrev asking : Asking
  asking = asks s plane references records cells m

  pub asks_determined : {r t : Result ℕ Refusal} {u v : Session} {a b : List ℤ}
      → said r ≡ asking.says → u ≡ asking.session → a ≡ asking.cells → said t ≡ asking.says → v ≡ asking.session → b ≡ asking.cells
      → (r ≡ t) × (u ≡ v) × (a ≡ b)
  asks_determined {r} {t} p p₁ p₂ q q₁ q₂ = (one_result r t p q, one_value p₁ q₁, one_value p₂ q₂)

module _ (s : Session) (residual : ℤ) (plane : List ℤ) (m : List ℕ) where
  abbrev putting : Putting
  putting = puts s residual plane m

  pub puts_determined : {r t : Result Unit Refusal} {u v : Session} {a b : List ℤ} {x y : List ℕ}
      → said r ≡ putting.says → u ≡ putting.session → a ≡ putting.plane → x ≡ putting.memory
      → said t ≡ putting.says → v ≡ putting.session → b ≡ putting.plane → y ≡ putting.memory
      → (r ≡ t) × (u ≡ v) × (a ≡ b) × (x ≡ y)
  puts_determined {r} {t} p p₁ p₂ p₃ q q₁ q₂ q₃ = (one_result r t p q, one_value p₁ q₁, one_value p₂ q₂, one_value p₃ q₃)
