-- `weights` meets its contract: w values of at most 15 are not refused.
use borrow.Author.Tests.{le-ltb}
use mathlib.Core.Path.{◌≡◌, ◌∙◌}
use Rattle.arith.specs.Weights.{error_weights}
use Rattle.arith.specs.declared.Four.{Four}
use Rattle.refusal.proofs.Outcomes.{unwrapped}
use Rattle.refusal.specs.Paper.{gives}
use Rattle.blend.specs.declared.WeightedHeader.{WeightedHeader}
use Rattle.blend.specs.Blend.{maxweights, weights_for}
use Rattle.blend.proofs.Range.{Ranges, ranges}
use Rattle.blend.proofs.averaging.weights.Goals as goal

given : (h : WeightedHeader) (s : Four) → Ranges h → error_weights s (maxweights h) ≡ gives (weights_for h s)
given h s r = simp (le-ltb 15 h.w0 r.w0_range, le-ltb 15 h.w1 r.w1_range, le-ltb 15 h.w2 r.w2_range, le-ltb 15 h.w3 r.w3_range)

pub returns : goal.returns
returns c = c.unwrap_or.ensures ∙ unwrapped c.error_weights.result _ _ (c.error_weights.ensures ∙ given c.args.header c.args.sums (ranges _ c.requires))
