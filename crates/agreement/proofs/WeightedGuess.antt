-- With a guess from the weighted state, guess plus offset does not wrap at 64 bits: a header in range, 32-bit neighbours, errors and offset.
use lib.IntN.{pos, ◌+ℤ◌}
use mathlib.Core.Path.{◌≡◌}
use Prim.Native.Nat.{ℕ, ◌^◌}
use Rattle.arith.specs.declared.Four.{Four}
use Rattle.blend.proofs.Bounds.{Words, ErrorWords, pred_near}
use Rattle.blend.proofs.Range.{Ranges}
use Rattle.blend.specs.Blend.{found, predicted_of}
use Rattle.blend.specs.declared.TrueErrors.{TrueErrors}
use Rattle.blend.specs.declared.WeightedHeader.{WeightedHeader}
use Rattle.integer.proofs.Bounded.{Below, looser, literal, plus, shifted_down}
use Rattle.nodes.specs.declared.Leaf.{Leaf}
use Rattle.predict.specs.Predictors.{guess}
use Rattle.predict.specs.declared.neighbours.PredictionData.{PredictionData}
use Rattle.walk.proofs.NoWrap.{Neighbours32, no_wrap}
use Rattle.walk.specs.Walk.{answer_of}

module _ (h : WeightedHeader) (d : PredictionData) (e : TrueErrors) (s : Four) (r : Ranges h) (n : Neighbours32 d) (w : ErrorWords e) where
  words : Words d
  words = record { left = n.left; top = n.top; toptop = n.toptop; topleft = n.topleft; topright = n.topright }

  guess_near : Below (2 ^ 62) (predicted_of h d e s).guess
  unfolding found
  guess_near = looser tt (shifted_down 8 (plus (pred_near h d e r words w s) (literal {b = 4} {z = pos 3} tt)))

  pub weighted_guess_does_not_wrap : (l : Leaf) (hops : ℕ) → Below (2 ^ 31) l.offset
      → (answer_of l d (predicted_of h d e s).guess hops).guess ≡ guess l.predictor d (predicted_of h d e s).guess +ℤ l.offset
  weighted_guess_does_not_wrap l hops offset = no_wrap l d (predicted_of h d e s).guess hops n offset guess_near
