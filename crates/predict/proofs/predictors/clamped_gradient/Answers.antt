-- `clamped_gradient` meets its contract: the value is kept between the smaller and the larger, all read back.
use mir.Facts.{to_z-of_z}
use Rattle.std.proofs.Common.{◌≡◌, ◌∙◌, ◌^◌, w64}
use Rattle.integer.proofs.Bounded.{Below, back, held, of_fits, plus, minus}
use Rattle.integer.specs.Order.{smaller, larger}
use Rattle.predict.proofs.Gradient.{kept_between}
use Rattle.predict.proofs.predictors.clamped_gradient.Goals as goal

pub returns : goal.returns
returns c =
    let l : Below (2 ^ 31) c.args.left = of_fits c.ranges.left in
    let t : Below (2 ^ 31) c.args.top = of_fits c.ranges.top in
    let corner : Below (2 ^ 31) c.args.topleft = of_fits c.ranges.topleft in
    let is_l = to_z-of_z c.ranges.left in
    let is_t = to_z-of_z c.ranges.top in
    let is_corner = to_z-of_z c.ranges.topleft in
    let sum = plus l t in
    let value = minus sum corner in
    let least : c.min-least.result ≡ smaller c.args.left c.args.top = simp (is_l, is_t, back tt l, back tt t) at c.min-least.ensures.value in
    let most : c.max-most.result ≡ larger c.args.left c.args.top = simp (is_l, is_t, back tt l, back tt t) at c.max-most.ensures.value in
    let held_least = held w64 c.min-least.result c.min-least.type_inv in
    let held_most = held w64 c.max-most.result c.max-most.type_inv in
    let inner = simp most at (simp (held_most, is_l, is_t, is_corner, back tt l, back tt t, back tt corner, back tt sum, back tt value) at c.min.ensures.value) in
    let outer = simp (held_least, held w64 c.min.result c.min.type_inv) at c.max.ensures.value in
    held w64 c.max.result c.max.type_inv ∙ (simp (least, inner) at outer) ∙ kept_between c.args.left c.args.top c.args.topleft
