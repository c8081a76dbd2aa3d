-- Guess plus offset does not wrap: neighbours and offsets are 32-bit, so that every guess but the weighted one stays far below
-- 2^62. The weighted one does too: blend's `pred_near` bounds it, in eighths, by 2^39, and `looser tt` makes 2^62 of any such bound.
use lib.IntN.{ℤ, pos, negsuc, nat_abs, ◌+ℤ◌, ◌-ℤ◌}
use lib.Signed.{lt_z}
use mathlib.Core.Bool.{Bool, true, false}
use mathlib.Core.Path.{◌≡◌}
use native.Mathlib.Omega.{arith}
use Prim.Native.Nat.{ℕ, ◌≤◌, ◌^◌}
use Rattle.integer.proofs.Bounded.{Below, fits, looser, literal, plus, minus, scaled, divided, the_smaller, the_larger}
use Rattle.integer.specs.Order.{if, smaller, larger, magnitude}
use Rattle.nodes.specs.declared.Leaf.{Leaf}
use Rattle.predict.specs.Predictors.{guess, half}
use Rattle.predict.specs.declared.neighbours.PredictionData.{PredictionData}
use Rattle.predict.specs.declared.predictors.Predictor.{Predictor}
use Rattle.predict.specs.declared.predictors.Predictor.TheVariants as predictor
use Rattle.walk.specs.Walk.{answer_of}
use Rattle.walk.proofs.Wide.{wrap64_in_range}

-- neighbours of 32 bits
pub record Neighbours32 (d : PredictionData) : Type 0 where
  pub left : Below (2 ^ 31) d.left
  pub top : Below (2 ^ 31) d.top
  pub toptop : Below (2 ^ 31) d.toptop
  pub topleft : Below (2 ^ 31) d.topleft
  pub topright : Below (2 ^ 31) d.topright
  pub leftleft : Below (2 ^ 31) d.leftleft
  pub toprightright : Below (2 ^ 31) d.toprightright

either : {b : ℕ} {x y : ℤ} (t : Bool) → Below b x → Below b y → Below b (if t x y)
either true h k = h
either false h k = k

half_below : {a b : ℤ} → Below (2 ^ 31) a → Below (2 ^ 31) b → Below (2 ^ 62) (half a b)
half_below h k = looser tt (divided 2 (plus h k))

guess_below : (p : Predictor) (d : PredictionData) (wp : ℤ) → Neighbours32 d → Below (2 ^ 62) wp → Below (2 ^ 62) (guess p d wp)
guess_below predictor.Zero d wp w h = literal tt
guess_below predictor.West d wp w h = looser tt w.left
guess_below predictor.North d wp w h = looser tt w.top
guess_below predictor.AverageWestAndNorth d wp w h = half_below w.top w.left
guess_below predictor.Select d wp w h = looser tt (either (lt_z (magnitude (d.top -ℤ d.topleft)) (magnitude (d.left -ℤ d.topleft))) w.left w.top)
guess_below predictor.Gradient d wp w h =
    let most = the_larger w.left w.top in
    let least = the_smaller w.left w.top in
    either (lt_z d.topleft (smaller d.left d.top)) (looser tt most)
    (either (lt_z (larger d.left d.top) d.topleft) (looser tt least) (looser tt (minus (plus w.left w.top) w.topleft)))
guess_below predictor.Weighted d wp w h = h
guess_below predictor.NorthEast d wp w h = looser tt w.topright
guess_below predictor.NorthWest d wp w h = looser tt w.topleft
guess_below predictor.WestWest d wp w h = looser tt w.leftleft
guess_below predictor.AverageWestAndNorthWest d wp w h = half_below w.left w.topleft
guess_below predictor.AverageNorthAndNorthWest d wp w h = half_below w.top w.topleft
guess_below predictor.AverageNorthAndNorthEast d wp w h = half_below w.top w.topright
guess_below predictor.AverageAll d wp w h =
    looser tt
    (divided 16 (plus (plus (plus (plus (plus (minus (scaled 5 w.top) (scaled 1 w.toptop)) (scaled 6 w.left)) w.leftleft) w.toprightright) (scaled 2 w.topright)) (literal {b = 9} {z = pos 8} tt)))

pub no_wrap : (l : Leaf) (d : PredictionData) (wp : ℤ) (hops : ℕ) → Neighbours32 d → Below (2 ^ 31) l.offset → Below (2 ^ 62) wp
    → (answer_of l d wp hops).guess ≡ guess l.predictor d wp +ℤ l.offset
no_wrap l d wp hops w o h = wrap64_in_range _ (fits tt (plus (guess_below l.predictor d wp w h) o))

-- the weighted guess's range
small : (wp : ℤ) → nat_abs wp ≤ 11250000000 → Below (2 ^ 62) wp
small (pos n) h = record { size = omega arith }
small (negsuc n) h = record { size = omega arith }

pub weighted_no_wrap : (l : Leaf) (d : PredictionData) (wp : ℤ) (hops : ℕ) → Neighbours32 d → Below (2 ^ 31) l.offset → nat_abs wp ≤ 11250000000
    → (answer_of l d wp hops).guess ≡ guess l.predictor d wp +ℤ l.offset
weighted_no_wrap l d wp hops w o h = no_wrap l d wp hops w o (small wp h)
