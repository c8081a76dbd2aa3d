-- The weighted predictor as ISO/IEC 18181-1's modular annex defines it: the true error and the four sub-prediction errors of a pixel are
-- functions of its position and of the pixels before it. Nothing here knows of memory, halves or parity. What it rests on, and the right
-- edge, are in docs/DIFFERENCES.md.
use Rattle.std.specs.Prelude.{List, [], ◌∷◌, ◌++◌, ℕ, zero, suc, ◌+◌, ◌-◌, ◌*◌, ◌/◌, ◌%◌, ◌^◌, ltb, ℤ, pos, get_or}
use Rattle.blend.specs.Blend.{predicted_of, errors_of}
use Rattle.arith.specs.declared.Four.{Four}
use Rattle.blend.specs.declared.PixelErrors.{PixelErrors}
use Rattle.blend.specs.declared.Prediction.{Prediction}
use Rattle.blend.specs.declared.TrueErrors.{TrueErrors}
use Rattle.blend.specs.declared.WeightedHeader.{WeightedHeader}
use Rattle.integer.specs.Order.{if}
use Rattle.predict.specs.declared.neighbours.PredictionData.{PredictionData}

-- a pixel that is not there has no errors
abbrev pub none : PixelErrors
none = record { error = pos 0; sub = record { e0 = 0; e1 = 0; e2 = 0; e3 = 0 } }

-- The errors of the pixels before the one at x, y, in raster order, and those of its neighbours. NW is N in the first column, NE is N in
-- the last.
module _ (width : ℕ) (history : List PixelErrors) (x y : ℕ) where
  abbrev pub before : ℕ → ℕ → PixelErrors
  before column row = get_or history (row * width + column) none

  abbrev pub above : ℕ → PixelErrors
  above column = if (ltb 0 y) (before column (y - 1)) none

  abbrev pub err_n : PixelErrors
  err_n = above x

  abbrev pub err_w : PixelErrors
  err_w = if (ltb 0 x) (before (x - 1) y) none

  abbrev pub err_nw : PixelErrors
  err_nw = if (ltb 0 x) (above (x - 1)) err_n

  abbrev pub err_ne : PixelErrors
  err_ne = if (ltb (x + 1) width) (above (x + 1)) err_n

  abbrev pub err_ww : PixelErrors
  err_ww = if (ltb 1 x) (before (x - 2) y) none

  unfoldable pub true_errors : TrueErrors
  true_errors = record { w = err_w.error; n = err_n.error; nw = err_nw.error; ne = err_ne.error }

  -- over N, W, NW, WW and NE; in the last column, where NE is N, W counts a second time. The sum wraps in 32 bits.
  abbrev pub err_sum : (Four → ℕ) → ℕ
  err_sum of =
      (of err_n.sub + of err_w.sub + of err_nw.sub + of err_ww.sub + of err_ne.sub + if (ltb (x + 1) width) 0 (of err_w.sub))
      % 2 ^ 32

  unfoldable pub err_sums : Four
  err_sums = record { e0 = err_sum (λ s. s.e0); e1 = err_sum (λ s. s.e1); e2 = err_sum (λ s. s.e2); e3 = err_sum (λ s. s.e3) }

-- Pixel k in raster order has these neighbours and this value.
module _ (h : WeightedHeader) (width : ℕ) (neighbours : ℕ → PredictionData) (value : ℕ → ℤ) where
  abbrev pub predicted_from : List PixelErrors → ℕ → Prediction
  predicted_from history k =
      predicted_of h (neighbours k) (true_errors width history (k % width) (k / width)) (err_sums width history (k % width) (k / width))

  -- the errors of the first k pixels
  unfoldable pub history : ℕ → List PixelErrors
  history zero = []
  history (suc k) = history k ++ (errors_of (predicted_from (history k) k).found (value k) ∷ [])

  -- what is predicted of pixel k, with its guess and its property
  abbrev pub predicted : ℕ → Prediction
  predicted k = predicted_from (history k) k
