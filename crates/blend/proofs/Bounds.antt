-- What 32-bit neighbours and errors and a header in range lead to: no sub-prediction, average or prediction comes near 2^40.
use borrow.Author.Tests.{lt-ltb}
use Prim.Native.Nat.{ℕ, ◌+◌, ◌-◌, ◌*◌, ◌/◌, ◌%◌, ◌^◌, ◌≤◌}
use lib.Dec.{ltb}
use lib.IntN.{ℤ, pos, ◌+ℤ◌, ◌-ℤ◌, ◌*ℤ◌}
use lib.Signed.{mag, shr_z}
use mathlib.Core.Bool.{Bool, true, false}
use mathlib.Core.Path.{◌≡◌}
use native.Mathlib.Nat.{div-le_self, mul-le-mul}
use native.Mathlib.Omega.{arith}
use Rattle.arith.proofs.Table.{entry_bound}
use Rattle.arith.specs.Weights.{entry_at, floor_log2, weight_of}
use Rattle.integer.proofs.Bounded.{Below, looser, plus, minus, scaled, by_factor, shifted_down, the_smaller, the_larger}
use Rattle.integer.proofs.Tests.{both}
use Rattle.integer.specs.Order.{if}
use Rattle.predict.specs.declared.neighbours.PredictionData.{PredictionData}
use Rattle.blend.specs.declared.TrueErrors.{TrueErrors}
use Rattle.arith.specs.declared.Four.{Four}
use Rattle.blend.specs.declared.WeightedHeader.{WeightedHeader}
use Rattle.blend.specs.Blend.{eighths, share, weighed_errors, weighed_steps, sub0, sub1, sub2, sub3, weights_for, Light, Small, normalised, agree, clamped_to, average, pred_of, found, within, possible}
use Rattle.blend.proofs.Average.{weight_sum_range, average_below}
use Rattle.blend.proofs.Range.{Ranges}

pub eighths_below : {v : ℤ} → Below (2 ^ 31) v → Below (2 ^ 34) (eighths v)
eighths_below h = scaled 7 h

-- W + NE - N
pub gradient_below : {a b c : ℤ} → Below (2 ^ 31) a → Below (2 ^ 31) b → Below (2 ^ 31) c → Below (2 ^ 37) (eighths a +ℤ eighths b -ℤ eighths c)
gradient_below a b c = looser tt (minus (plus (eighths_below a) (eighths_below b)) (eighths_below c))

-- three errors times a factor
pub three_below : {a b c : ℤ} → Below (2 ^ 31) a → Below (2 ^ 31) b → Below (2 ^ 31) c → Below (2 ^ 33) (a +ℤ b +ℤ c)
three_below a b c = looser tt (plus (plus a b) c)

pub factor_below : {a b c : ℤ} {factor : ℕ} → Below (2 ^ 31) a → Below (2 ^ 31) b → Below (2 ^ 31) c → factor ≤ 31 → Below (2 ^ 38) ((a +ℤ b +ℤ c) *ℤ pos factor)
factor_below a b c f = looser tt (by_factor 31 f (three_below a b c))

pub share_below : {a b c : ℤ} {factor : ℕ} → Below (2 ^ 31) a → Below (2 ^ 31) b → Below (2 ^ 31) c → factor ≤ 31 → Below (2 ^ 34) (share a b c factor)
share_below a b c f = looser tt (shifted_down 32 (factor_below a b c f))

pub corrected_below : {v a b c : ℤ} {factor : ℕ} → Below (2 ^ 31) v → Below (2 ^ 31) a → Below (2 ^ 31) b → Below (2 ^ 31) c → factor ≤ 31
    → Below (2 ^ 37) (eighths v -ℤ share a b c factor)
corrected_below v a b c f = looser tt (minus (eighths_below v) (share_below a b c f))

-- the errors and the steps, each by its factor
pub weighed_errors_below : (e : TrueErrors) {a b c : ℕ} → Below (2 ^ 31) e.nw → Below (2 ^ 31) e.n → Below (2 ^ 31) e.ne → a ≤ 31 → b ≤ 31 → c ≤ 31
    → Below (2 ^ 38) (weighed_errors e a b c)
weighed_errors_below e nw n ne a b c = looser tt (plus (plus (by_factor 31 a nw) (by_factor 31 b n)) (by_factor 31 c ne))

pub step_below : {p q : ℤ} → Below (2 ^ 31) p → Below (2 ^ 31) q → Below (2 ^ 35 + 1) (eighths p -ℤ eighths q)
step_below p q = minus (eighths_below p) (eighths_below q)

pub weighed_steps_below : (d : PredictionData) {a b : ℕ} → Below (2 ^ 31) d.toptop → Below (2 ^ 31) d.top → Below (2 ^ 31) d.topleft → Below (2 ^ 31) d.left → a ≤ 31 → b ≤ 31
    → Below (2 ^ 41) (weighed_steps d a b)
weighed_steps_below d nn n nw w a b = looser tt (plus (by_factor 31 a (step_below nn n)) (by_factor 31 b (step_below nw w)))

pub weighed_below : {v p q : ℤ} → Below (2 ^ 31) v → Below (2 ^ 38) p → Below (2 ^ 41) q → Below (2 ^ 37) (eighths v -ℤ shr_z (p +ℤ q) 32)
weighed_below v p q = looser tt (minus (eighths_below v) (shifted_down 32 (plus p q)))

-- ---- what is found

is_within : {z : ℤ} → Below (2 ^ 40) z → within z ≡ true
is_within {z} h = lt-ltb (mag z) (2 ^ 40) h.size

either : {b : ℕ} {x y : ℤ} (t : Bool) → Below b x → Below b y → Below b (if t x y)
either true h k = h
either false h k = k

-- neighbours and true errors of 32 bits
pub record Words (d : PredictionData) : Type 0 where
  pub left : Below (2 ^ 31) d.left
  pub top : Below (2 ^ 31) d.top
  pub toptop : Below (2 ^ 31) d.toptop
  pub topleft : Below (2 ^ 31) d.topleft
  pub topright : Below (2 ^ 31) d.topright

pub record ErrorWords (e : TrueErrors) : Type 0 where
  pub w : Below (2 ^ 31) e.w
  pub n : Below (2 ^ 31) e.n
  pub nw : Below (2 ^ 31) e.nw
  pub ne : Below (2 ^ 31) e.ne

-- a weight, whatever the sum
light : (x m h : ℕ) → m ≤ 15 → (t : Bool) → (4 ≤ if t (4 + m * entry_at x) (4 + m * entry_at (x / 2 ^ (h - 5)) / 2 ^ (h - 5))) × (if t (4 + m * entry_at x) (4 + m * entry_at (x / 2 ^ (h - 5)) / 2 ^ (h - 5)) ≤ 4 + 15 * 2 ^ 24)
light x m h f true = (omega arith, omega (arith, mul-le-mul f (entry_bound (x % 64))))
light x m h f false =
    let index = x / 2 ^ (h - 5) in
    (omega arith, omega (arith, mul-le-mul f (entry_bound (index % 64)), div-le_self (m * entry_at index) (2 ^ (h - 5))))

weight_light : (x m : ℕ) → m ≤ 15 → (4 ≤ weight_of x m) × (weight_of x m ≤ 4 + 15 * 2 ^ 24)
weight_light x m f = light x m (floor_log2 (x + 1)) f (ltb (floor_log2 (x + 1)) 5)

pub weights_light : (h : WeightedHeader) (s : Four) → Ranges h → Light (weights_for h s)
weights_light h s r =
    record {
      light0 = weight_light s.e0 h.w0 r.w0_range;
      light1 = weight_light s.e1 h.w1 r.w1_range;
      light2 = weight_light s.e2 h.w2 r.w2_range;
      light3 = weight_light s.e3 h.w3 r.w3_range;
    }

module _ (h : WeightedHeader) (d : PredictionData) (e : TrueErrors) (r : Ranges h) (dw : Words d) (ew : ErrorWords e) where
  sub0_below : Below (2 ^ 37) (sub0 h d e)
  sub0_below = gradient_below dw.left dw.topright dw.top

  sub1_below : Below (2 ^ 37) (sub1 h d e)
  sub1_below = corrected_below dw.top ew.n ew.w ew.ne r.p1c_range

  sub2_below : Below (2 ^ 37) (sub2 h d e)
  sub2_below = corrected_below dw.left ew.n ew.w ew.nw r.p2c_range

  sub3_below : Below (2 ^ 37) (sub3 h d e)
  sub3_below =
      weighed_below dw.top
      (weighed_errors_below e ew.nw ew.n ew.ne r.p3ca_range r.p3cb_range r.p3cc_range)
      (weighed_steps_below d dw.toptop dw.top dw.topleft dw.left r.p3cd_range r.p3ce_range)

  pub subs_small : Small (sub0 h d e) (sub1 h d e) (sub2 h d e) (sub3 h d e)
  subs_small = record { small0 = sub0_below.size; small1 = sub1_below.size; small2 = sub2_below.size; small3 = sub3_below.size }

  average_near : (s : Four) → Below (2 ^ 39) (average h d e s)
  unfolding average
  average_near s =
      let range = weight_sum_range (weights_for h s) (weights_light h s r) in
      average_below (normalised (weights_for h s)) range.1 (sub0 h d e) (sub1 h d e) (sub2 h d e) (sub3 h d e) subs_small range.0

  clamped_near : (z : ℤ) → Below (2 ^ 39) z → Below (2 ^ 39) (clamped_to d z)
  clamped_near z near =
      let l : Below (2 ^ 39) (eighths d.left) = looser tt (eighths_below dw.left) in
      let t : Below (2 ^ 39) (eighths d.top) = looser tt (eighths_below dw.top) in
      let r : Below (2 ^ 39) (eighths d.topright) = looser tt (eighths_below dw.topright) in
      the_larger (the_smaller l (the_smaller r t)) (the_smaller (the_larger l (the_larger r t)) near)

  pub pred_near : (s : Four) → Below (2 ^ 39) (pred_of h d e s)
  pred_near s = either (agree e) (average_near s) (clamped_near (average h d e s) (average_near s))

  -- what an ask finds is possible: the put that follows is not refused for it
  pub possible_found : (s : Four) → possible (found h d e s) ≡ true
  unfolding possible found
  possible_found s =
      both (both (both (both (is_within (looser tt sub0_below)) (is_within (looser tt sub1_below))) (is_within (looser tt sub2_below))) (is_within (looser tt sub3_below)))
      (is_within (looser tt (pred_near s)))
