-- What a call says and leaves, from what its parts say.
use lib.IntN.{ℤ}
use lib.ListN.{length, set}
use mathlib.Core.Bool.{Bool, true}
use mathlib.Core.List.{List}
use mathlib.Core.Path.{◌≡◌, sym, ap, ◌∙◌}
use Prim.Native.Nat.{ℕ, ◌+◌, ◌-◌, ◌*◌}
use Rattle.blend.specs.declared.Prediction.{Prediction}
use Rattle.blend.specs.declared.WeightedHeader.{WeightedHeader}
use Rattle.cells.specs.Cells.{outcome, start_cells}
use Rattle.colour.specs.Rows.{row_of}
use Rattle.flat.specs.FlatWalk.{flat_of}
use Rattle.integer.specs.Fill.{filled}
use Rattle.integer.specs.Order.{if}
use Rattle.predict.specs.Neighbours.{neighbours}
use Rattle.predict.specs.declared.neighbours.PredictionData.{PredictionData}
use Rattle.refusal.proofs.Outcomes.{same_given, no_refusal}
use Rattle.refusal.specs.Paper.{Outcome, gives, refuses}
use Rattle.walk.specs.declared.PredictionResult.{PredictionResult}
use Rattle.weighted.specs.Memory.{needed}
use Rattle.weighted.specs.State.{answered, onward}
use Rattle.session.proofs.Granted.{AskGranted, ask_granted, fetches, finds_so, found_at, fills}
use Rattle.session.specs.Session.{width, column, line, pixel_cells, walked, walks_from, rows_of, answered_by, ask_by, may_ask, asks, Asking, passed, unpacked, learnt, put_by, may_put, puts, Putting, fresh, open_by, may_open, opens, Opening}
use Rattle.session.specs.Weights.{finds}
use Rattle.session.specs.declared.Session.{Session}

-- ---- ask

module _ (s : Session) (plane references records cells : List ℤ) (m : List ℕ) where
  abbrev tests : Outcome Unit
  tests = may_ask s (length plane) (length references) records (length cells) (length m)

  abbrev asking : Outcome Unit → Asking
  asking o = ask_by o (walks_from s (rows_of s plane) (answered_by s m (rows_of s plane)) references records cells) s cells

  pub ask_refused : {number : ℕ} {details : List ℤ} → refuses number details ≡ tests
      → asks s plane references records cells m ≡ record { says = refuses number details; session = s; cells = cells }
  unfolding asks
  ask_refused says = ap asking (sym says)

  module _ (says : gives tt ≡ tests) where
    granted : AskGranted s (length plane) (length references) (length cells) (length m)
    granted = ask_granted s (length plane) (length references) records (length cells) (length m) (sym says)

    abbrev around : Outcome PredictionData
    around = neighbours (row_of plane (width s) (line s)) (row_of plane (width s) (line s - 1)) (row_of plane (width s) (line s - 2)) (column s) (line s)

    -- neither the fetch nor the weighted state refuses, and there is room for the cells
    pub fetch_passes : {number : ℕ} {details : List ℤ} → refuses number details ≡ around → ⊥
    fetch_passes e = no_refusal (e ∙ fetches s plane granted.placed)

    found : (d : PredictionData) → finds s.weights s.weighted m d ≡ gives (found_at s m d)
    found d = finds_so s (length plane) (length references) (length cells) m d granted

    pub predict_passes : (d : PredictionData) {number : ℕ} {details : List ℤ} → refuses number details ≡ finds s.weights s.weighted m d → ⊥
    predict_passes d e = no_refusal (e ∙ found d)

    pub has_cells : outcome s.mask (column s) (line s) (length references) (length cells) ≡ gives tt
    has_cells = fills s granted.placed (length references) (length cells) granted.sayable granted.room

    pub living : s.live ≡ true
    living = granted.living

    -- past the tests the walk decides
    pub ask_walked : {d : PredictionData} {p : Prediction} {cells' : List ℤ} (o : Outcome PredictionResult)
        → gives d ≡ around → gives p ≡ finds s.weights s.weighted m d → cells' ≡ pixel_cells s d p.property references cells → o ≡ flat_of records cells' d p.guess
        → asks s plane references records cells m ≡ walked s (answered s.weighted p) cells' o
    unfolding asks pixel_cells
    ask_walked {d} {p} {cells'} o seven is full walks =
        let rows : d ≡ rows_of s plane = same_given (seven ∙ fetches s plane granted.placed) in
        let prediction : p ≡ found_at s m d = same_given (is ∙ found d) in
        ap asking (sym says) ∙ rw (walks, full, prediction, rows)

-- ---- put

module _ (s : Session) (residual : ℤ) (plane : List ℤ) (m : List ℕ) where
  abbrev pub stored : Putting
  stored =
      record {
        says = gives tt;
        session = passed s (onward s.weighted);
        plane = set plane (line s * width s + column s) (unpacked s residual);
        memory = learnt s m (unpacked s residual);
      }

  pub put_refused : {number : ℕ} {details : List ℤ} → refuses number details ≡ may_put s (length plane) (length m)
      → puts s residual plane m ≡ record { says = refuses number details; session = s; plane = plane; memory = m }
  unfolding puts
  put_refused says = ap (λ (o : Outcome Unit). put_by o stored s plane m) (sym says)

  pub put_done : gives tt ≡ may_put s (length plane) (length m) → puts s residual plane m ≡ stored
  unfolding puts
  put_done says = ap (λ (o : Outcome Unit). put_by o stored s plane m) (sym says)

-- ---- open

module _ (w : ℕ) (h : WeightedHeader) (weights : Bool) (mask : ℕ) (channel stream : ℤ) (cells : List ℤ) (m : List ℕ) where
  abbrev pub started : Opening
  started =
      record {
        says = gives (fresh h w weights mask);
        cells = start_cells channel stream (length cells);
        memory = if weights (filled (λ k. 0) (needed w) m) m;
      }

  pub open_refused : {number : ℕ} {details : List ℤ} → refuses number details ≡ may_open h w weights (length cells) (length m)
      → opens w h weights mask channel stream cells m ≡ record { says = refuses number details; cells = cells; memory = m }
  unfolding opens
  open_refused says = ap (λ (o : Outcome Unit). open_by o started cells m) (sym says)

  pub open_done : gives tt ≡ may_open h w weights (length cells) (length m) → opens w h weights mask channel stream cells m ≡ started
  unfolding opens
  open_done says = ap (λ (o : Outcome Unit). open_by o started cells m) (sym says)
