-- `find` meets its contract: the weights sum to 13..31, and each part is what it is by its own contract.
use Rattle.std.proofs.Common.{arith}
use Rattle.blend.specs.Blend.{average, found}
use Rattle.blend.proofs.Average.{weight_sum_range}
use Rattle.blend.proofs.Bounds.{weights_light}
use Rattle.blend.proofs.Range.{ranges}
use Rattle.blend.proofs.Sizes.{sizes}
use Rattle.blend.proofs.find.Goals as goal

pub normalise-requires : goal.normalise-requires
normalise-requires c = rw c.weights.ensures (weights_light _ _ (ranges _ c.requires))

pub weighted_average-average-requires : goal.weighted_average-average-requires
weighted_average-average-requires c =
    let range = weight_sum_range _ (weights_light c.args.header c.args.sums (ranges _ c.requires)) in
    record { small = search (arith, sizes); at_least = rw (c.normalise.ensures, c.weights.ensures) range.0; at_most = rw (c.normalise.ensures, c.weights.ensures) range.1 }

pub returns-clause-found : goal.returns-clause-found
unfolding average found
returns-clause-found c = search (arith, sizes, c.normalise.ensures, c.weights.ensures)
