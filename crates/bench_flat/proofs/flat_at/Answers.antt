-- `flat_at` meets its contract: the flat walk for the pixel's own cells and neighbours.
use lib.ListN.{drop}
use mathlib.Core.Path.{◌≡◌, ap, ◌∙◌}
use mir.Facts.{to_z-of_z}
use mir.Syntax.{w64}
use native.Mathlib.Omega.{arith}
use Prim.Native.Nat.{◌+◌, ◌-◌, ◌*◌}
use Rattle.integer.proofs.Bounded.{held}
use Rattle.nodes.proofs.Lists.{rest}
use Rattle.told.specs.Told.{data_of}
use Rattle.bench_flat.specs.Pixels.{guess_of, flat_at}
use Rattle.bench_flat.proofs.flat_at.Goals as goal

pub returns : goal.returns
unfolding flat_at
returns c =
    let k = c.args.k in
    let wide : 16 * k + 16 - 16 * k ≡ 16 = omega arith in
    let neighbours : c.take_seven-seven.result ≡ data_of (drop (7 * k) c.args.«data».now) =
    simp (rest c.args.«data».now (7 * k)) at c.take_seven-seven.ensures in
    let is = simp (wide, neighbours, to_z-of_z c.ranges.wp_pred) at c.predict_flat.ensures in
    held w64 _ c.guess_of.type_inv ∙ c.guess_of.ensures ∙ ap guess_of is
