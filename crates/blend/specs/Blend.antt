-- Module 4 of document 01, one pixel: the header's ranges, the four sub-predictions, their weights and their average, when it is
-- clamped, the property, and the errors that the true value leaves. Numbers are in eighths where the Rust adds three bits.
use Rattle.std.specs.Prelude.{Bool, ◌&&◌, ◌||◌, not, [], ◌∷◌, ◌≡◌, ℕ, ◌+◌, ◌-◌, ◌*◌, ◌/◌, ◌^◌, ◌≤◌, ◌<◌, leb, ltb, ℤ, pos, ◌+ℤ◌, ◌-ℤ◌, ◌*ℤ◌, Result}
use Rattle.std.specs.Int.Signed.{mag, lt_z, shr_z}
use Rattle.arith.specs.Weights.{entry, floor_log2, weights_of}
use Rattle.integer.specs.Order.{if, smaller, larger, magnitude}
use Rattle.integer.specs.Word.{wrap, bits_of}
use Rattle.predict.specs.declared.neighbours.PredictionData.{PredictionData}
use Rattle.refusal.specs.Paper.{Outcome, gives, refuses, said, one_result}
use Rattle.refusal.specs.declared.Refusal.{Refusal}
use Rattle.blend.specs.declared.WeightedHeader.{WeightedHeader}
use Rattle.blend.specs.declared.TrueErrors.{TrueErrors}
use Rattle.arith.specs.declared.Four.{Four}
use Rattle.blend.specs.declared.Found.{Found}
use Rattle.blend.specs.declared.Prediction.{Prediction}
use Rattle.blend.specs.declared.PixelErrors.{PixelErrors}

-- ---- the header

-- the p values are 0..31, the w values 0..15
unfoldable pub in_range : WeightedHeader → Bool
in_range h =
    leb h.p1c 31 && leb h.p2c 31 && leb h.p3ca 31 && leb h.p3cb 31 && leb h.p3cc 31 && leb h.p3cd 31 && leb h.p3ce 31
    && leb h.w0 15 && leb h.w1 15 && leb h.w2 15 && leb h.w3 15

abbrev pub defaults : WeightedHeader
defaults = record { p1c = 16; p2c = 10; p3ca = 7; p3cb = 7; p3cc = 7; p3cd = 0; p3ce = 0; w0 = 13; w1 = 12; w2 = 12; w3 = 12 }

-- ---- the sub-predictions: from the neighbours' values and their true errors

abbrev pub eighths : ℤ → ℤ
eighths v = pos 8 *ℤ v

-- three errors times a factor of 0..31, in 32nds rounded down
abbrev pub share : ℤ → ℤ → ℤ → ℕ → ℤ
share a b c factor = shr_z ((a +ℤ b +ℤ c) *ℤ pos factor) 32

-- three errors, and the steps from N to NN and from W to NW, each times its own factor
abbrev pub weighed_errors : TrueErrors → ℕ → ℕ → ℕ → ℤ
weighed_errors e a b c = e.nw *ℤ pos a +ℤ e.n *ℤ pos b +ℤ e.ne *ℤ pos c

abbrev pub weighed_steps : PredictionData → ℕ → ℕ → ℤ
weighed_steps d a b = (eighths d.toptop -ℤ eighths d.top) *ℤ pos a +ℤ (eighths d.topleft -ℤ eighths d.left) *ℤ pos b

module _ (h : WeightedHeader) (d : PredictionData) (e : TrueErrors) where
  abbrev pub sub0 : ℤ
  sub0 = eighths d.left +ℤ eighths d.topright -ℤ eighths d.top

  abbrev pub sub1 : ℤ
  sub1 = eighths d.top -ℤ share e.n e.w e.ne h.p1c

  abbrev pub sub2 : ℤ
  sub2 = eighths d.left -ℤ share e.n e.w e.nw h.p2c

  abbrev pub sub3 : ℤ
  sub3 = eighths d.top -ℤ shr_z (weighed_errors e h.p3ca h.p3cb h.p3cc +ℤ weighed_steps d h.p3cd h.p3ce) 32

-- ---- their weights, and the average

-- what the error sums leave of the header's w values
abbrev pub maxweights : WeightedHeader → Four
maxweights h = record { e0 = h.w0; e1 = h.w1; e2 = h.w2; e3 = h.w3 }

abbrev pub weights_for : WeightedHeader → Four → Four
weights_for h s = weights_of s (maxweights h)

abbrev pub total : Four → ℕ
total w = w.e0 + w.e1 + w.e2 + w.e3

-- weights as `error_weight` leaves them of w values 0..15
pub record Light (w : Four) : Type 0 where
  pub light0 : (4 ≤ w.e0) × (w.e0 ≤ 4 + 15 * 2 ^ 24)
  pub light1 : (4 ≤ w.e1) × (w.e1 ≤ 4 + 15 * 2 ^ 24)
  pub light2 : (4 ≤ w.e2) × (w.e2 ≤ 4 + 15 * 2 ^ 24)
  pub light3 : (4 ≤ w.e3) × (w.e3 ≤ 4 + 15 * 2 ^ 24)

-- sub-predictions as 32-bit neighbours and errors lead to
pub record Small (p0 p1 p2 p3 : ℤ) : Type 0 where
  pub small0 : mag p0 < 2 ^ 37
  pub small1 : mag p1 < 2 ^ 37
  pub small2 : mag p2 < 2 ^ 37
  pub small3 : mag p3 < 2 ^ 37

-- all four shifted so that the sum's highest set bit would be bit 4
abbrev pub shifted_by : ℕ → Four → Four
shifted_by k w = record { e0 = w.e0 / 2 ^ k; e1 = w.e1 / 2 ^ k; e2 = w.e2 / 2 ^ k; e3 = w.e3 / 2 ^ k }

unfoldable pub normalised : Four → Four
normalised w = shifted_by (floor_log2 (total w) - 4) w

-- the accumulator starts at half the sum less one; the division by the sum is a product with the table's entry
abbrev pub average_by : Four → ℤ → ℤ → ℤ → ℤ → ℤ
average_by w p0 p1 p2 p3 =
    shr_z (
    (pos (total w / 2 - 1) +ℤ p0 *ℤ pos w.e0 +ℤ p1 *ℤ pos w.e1 +ℤ p2 *ℤ pos w.e2 +ℤ p3 *ℤ pos w.e3)
    *ℤ pos (entry (total w - 1))
    )
    (2 ^ 24)

-- ---- clamping, and the property

abbrev pub least : ℤ → ℤ → ℤ → ℤ
least a b c = smaller a (smaller b c)

abbrev pub most : ℤ → ℤ → ℤ → ℤ
most a b c = larger a (larger b c)

-- The errors of N, W and NW are not all equal and have one sign, 0 counting as positive: then nothing is clamped.
abbrev pub agree : TrueErrors → Bool
agree e =
    lt_z (least e.n e.w e.nw) (most e.n e.w e.nw)
    && (not (lt_z (least e.n e.w e.nw) (pos 0)) || lt_z (most e.n e.w e.nw) (pos 0))

-- kept between the least and the most of N, W and NE
abbrev pub clamped_to : PredictionData → ℤ → ℤ
clamped_to d z =
    larger (least (eighths d.left) (eighths d.topright) (eighths d.top))
    (smaller (most (eighths d.left) (eighths d.topright) (eighths d.top)) z)

-- the second only if its magnitude is the larger
abbrev pub farther : ℤ → ℤ → ℤ
farther p q = if (lt_z (magnitude p) (magnitude q)) q p

-- the first of W, N, NW, NE with the largest magnitude
abbrev pub property_of : TrueErrors → ℤ
property_of e = farther (farther (farther e.w e.n) e.nw) e.ne

-- ---- what is found for a pixel

module _ (h : WeightedHeader) (d : PredictionData) (e : TrueErrors) (s : Four) where
  unfoldable pub average : ℤ
  average = average_by (normalised (weights_for h s)) (sub0 h d e) (sub1 h d e) (sub2 h d e) (sub3 h d e)

  abbrev pub pred_of : ℤ
  pred_of = if (agree e) average (clamped_to d average)

  unfoldable pub found : Found
  found = record { p0 = sub0 h d e; p1 = sub1 h d e; p2 = sub2 h d e; p3 = sub3 h d e; pred = pred_of }

  -- the guess is (pred + 3) / 8 rounded down
  abbrev pub predicted_of : Prediction
  predicted_of = record { found = found; guess = shr_z (found.pred +ℤ pos 3) 8; property = property_of e }

  -- 12 for a header out of range
  abbrev pub prediction : Outcome Prediction
  prediction = if (in_range h) (gives predicted_of) (refuses 12 (pos 0 ∷ []))

-- ---- what the pixel's true value leaves

-- |prediction - value| in whole units, rounded half down: its low 32 bits
abbrev pub sub_error : ℤ → ℤ → ℕ
sub_error p v = bits_of (shr_z (magnitude (p -ℤ eighths v) +ℤ pos 3) 8)

unfoldable pub errors_of : Found → ℤ → PixelErrors
errors_of f v =
    record {
      error = wrap (f.pred -ℤ eighths v);
      sub = record { e0 = sub_error f.p0 v; e1 = sub_error f.p1 v; e2 = sub_error f.p2 v; e3 = sub_error f.p3 v };
    }

-- At least -2^40 and less than 2^40. No neighbours and errors lead to a prediction beyond; such a one was not found by asking.
abbrev pub within : ℤ → Bool
within z = ltb (mag z) (2 ^ 40)

unfoldable pub possible : Found → Bool
possible f = within f.p0 && within f.p1 && within f.p2 && within f.p3 && within f.pred

abbrev pub leaves : Found → ℤ → Outcome PixelErrors
leaves f v = if (possible f) (gives (errors_of f v)) (refuses 13 (pos 0 ∷ []))

-- ---- determinacy

pub prediction_determined : {v : Outcome Prediction} (r s : Result Prediction Refusal) → said r ≡ v → said s ≡ v → r ≡ s
prediction_determined r s p q = one_result r s p q

pub left_determined : {v : Outcome PixelErrors} (r s : Result PixelErrors Refusal) → said r ≡ v → said s ≡ v → r ≡ s
left_determined r s p q = one_result r s p q
