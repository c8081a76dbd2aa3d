-- `weighted_average` meets its contract: no sum wraps, and the product with the table's entry does not.
use mathlib.Core.Path.{◌≡◌, ◌∙◌}
use Prim.Native.Nat.{◌-◌}
use Rattle.std.proofs.Common.{arith}
use Rattle.arith.specs.Weights.{entry}
use Rattle.arith.specs.declared.Four.{Four}
use Rattle.blend.specs.Blend.{total}
use Rattle.blend.proofs.Sizes.{sizes}
use Rattle.blend.proofs.Average.{in_table, entry_small, product_below, average_below}
use Rattle.blend.proofs.averaging.weighted_average.Goals as goal

pub overflow_add-sum-2 : goal.overflow_add-sum-2
overflow_add-sum-2 c = search (arith, sizes, c.requires.small)

pub overflow_add-sum-3 : goal.overflow_add-sum-3
overflow_add-sum-3 c = search (arith, sizes, c.requires.small)

pub overflow_add-sum-4 : goal.overflow_add-sum-4
overflow_add-sum-4 c = search (arith, sizes, c.requires.small)

pub overflow_mul-result : goal.overflow_mul-result
overflow_mul-result c =
    let w : Four = c.args.weights in
    let is_entry : c.division_entry-entry.result ≡ entry (total w - 1) = c.division_entry-entry.ensures ∙ in_table (total w) c.requires.at_least c.requires.at_most in
    let small = entry_small (total w) c.requires.at_least c.requires.at_most in
    let product = product_below w c.requires.at_most _ _ _ _ c.requires.small c.requires.at_least in
    search (arith, sizes, c.requires.small, is_entry, small, product)

pub returns : goal.returns
returns c =
    let w : Four = c.args.weights in
    let is_entry : c.division_entry-entry.result ≡ entry (total w - 1) = c.division_entry-entry.ensures ∙ in_table (total w) c.requires.at_least c.requires.at_most in
    let small = entry_small (total w) c.requires.at_least c.requires.at_most in
    let product = product_below w c.requires.at_most _ _ _ _ c.requires.small c.requires.at_least in
    let average = average_below w c.requires.at_most _ _ _ _ c.requires.small c.requires.at_least in
    record {
      value = search (arith, sizes, c.requires.small, is_entry, small, product, average);
      small = search (arith, sizes, c.requires.small, is_entry, small, product, average);
    }
