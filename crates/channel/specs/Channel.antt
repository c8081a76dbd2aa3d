-- A whole channel as a function of its residuals: plane, contexts, cells and memory after k pixels in raster order, by the definitions of
-- the modules and of the standard's weighted predictor. Nothing here knows of a session: pixel k stands at column k % width of row
-- k / width, and what is predicted of it rests on the errors of the pixels before it alone.
use Rattle.std.specs.Prelude.{Bool, List, [], ◌∷◌, ◌++◌, ℕ, zero, suc, ◌-◌, ◌/◌, ◌%◌, ℤ, pos, ◌+ℤ◌, ◌*ℤ◌, length, set}
use Rattle.blend.specs.Blend.{errors_of, predicted_of}
use Rattle.blend.specs.declared.PixelErrors.{PixelErrors}
use Rattle.blend.specs.declared.Prediction.{Prediction}
use Rattle.blend.specs.declared.WeightedHeader.{WeightedHeader}
use Rattle.cells.specs.Cells.{start_cells, filled_cells}
use Rattle.colour.specs.Rows.{row_of}
use Rattle.history.specs.Standard.{true_errors, err_sums}
use Rattle.integer.specs.Fill.{filled}
use Rattle.integer.specs.Order.{if}
use Rattle.integer.specs.Word.{wrap}
use Rattle.predict.specs.Neighbours.{fetched, present}
use Rattle.predict.specs.declared.neighbours.PredictionData.{PredictionData}
use Rattle.refusal.specs.Paper.{Outcome, gives, refuses}
use Rattle.session.specs.Session.{silent}
use Rattle.walk.specs.declared.PredictionResult.{PredictionResult}
use Rattle.weighted.specs.Memory.{needed, updated}

-- what a channel is told once, and what it is told of pixel k: its reference row and its residual. The walk answers for cells,
-- neighbours and the weighted guess.
pub record Told : Type 0 where
  pub width : ℕ
  pub header : WeightedHeader
  pub weights : Bool
  pub mask : ℕ
  pub channel : ℤ
  pub stream : ℤ
  pub references : ℕ → List ℤ
  pub residual : ℕ → ℤ
  pub walk : List ℤ → PredictionData → ℤ → Outcome PredictionResult

-- how far it has come: the errors of the pixels before, what was said of each of them, and whether a walk has been refused
pub record Scan : Type 0 where
  pub plane : List ℤ
  pub contexts : List (Outcome ℕ)
  pub cells : List ℤ
  pub memory : List ℕ
  pub past : List PixelErrors
  pub stands : Outcome Unit

module _ (t : Told) where
  -- ---- pixel k

  module _ (s : Scan) (k : ℕ) where
    abbrev pub x : ℕ
    x = k % t.width

    abbrev pub y : ℕ
    y = k / t.width

    abbrev pub row_up : ℕ → List ℤ
    row_up n = present n y (row_of s.plane t.width (y - n))

    abbrev pub seven : PredictionData
    seven = fetched (row_up 0) (row_up 1) (row_up 2) x

    abbrev pub predicted : Prediction
    predicted = if t.weights (predicted_of t.header seven (true_errors t.width s.past x y) (err_sums t.width s.past x y)) silent

    abbrev pub cells_of : List ℤ
    cells_of = filled_cells t.mask x y seven predicted.property (t.references k) s.cells

    -- the low 32 bits of guess + residual * multiplier
    abbrev pub value_of : PredictionResult → ℤ
    value_of r = wrap (r.guess +ℤ t.residual k *ℤ pos r.multiplier)

    abbrev pub after : Outcome PredictionResult → Scan
    after (gives r) =
        let errors = errors_of predicted.found (value_of r) in
        record {
          plane = set s.plane k (value_of r);
          contexts = s.contexts ++ (gives r.context ∷ []);
          cells = cells_of;
          memory = if t.weights (updated s.memory t.width x y errors) s.memory;
          past = s.past ++ (errors ∷ []);
          stands = gives tt;
        }
    after (refuses number details) =
        record {
          plane = s.plane;
          contexts = s.contexts ++ (refuses number details ∷ []);
          cells = cells_of;
          memory = s.memory;
          past = s.past;
          stands = refuses number details;
        }

    -- after a refused walk every call is out of turn and changes nothing
    abbrev pub pixel : Outcome Unit → Scan
    pixel (gives done) = after (t.walk cells_of seven predicted.guess)
    pixel (refuses number details) =
        record {
          plane = s.plane;
          contexts = s.contexts ++ (refuses 13 (pos 0 ∷ []) ∷ []);
          cells = s.cells;
          memory = s.memory;
          past = s.past;
          stands = refuses number details;
        }

  -- ---- from the lent words on

  module _ (plane cells : List ℤ) (memory : List ℕ) where
    unfoldable pub scan : ℕ → Scan
    scan zero =
        record {
          plane = plane;
          contexts = [];
          cells = start_cells t.channel t.stream (length cells);
          memory = if t.weights (filled (λ i. 0) (needed t.width) memory) memory;
          past = [];
          stands = gives tt;
        }
    scan (suc k) = pixel (scan k) k (scan k).stands
