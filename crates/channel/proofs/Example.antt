-- Document 11's smallest channel where clearing the cells once, and not at each row, shows; and sound arguments with weights on.
use lib.IntN.{ℤ, pos, negsuc}
use lib.ListN.{get_or, replicate}
use lib.Signed.{mag}
use mathlib.Core.Bool.{true, false}
use mathlib.Core.List.{List, [], ◌∷◌}
use mathlib.Core.Path.{◌≡◌, refl}
use native.Mathlib.Omega.{arith}
use Prim.Native.Nat.{ℕ, zero, suc, ◌^◌, ◌<◌}
use Rattle.blend.specs.Blend.{in_range, defaults}
use Rattle.flat.specs.FlatWalk.{flat_of}
use Rattle.integer.specs.Fill.{tabulate}
use Rattle.nodes.specs.Nodes.{node_of}
use Rattle.predict.specs.Neighbours.{fetched}
use Rattle.refusal.specs.Paper.{gives}
use Rattle.walk.specs.Walk.{walk_of, walk_from, step_of}
use Rattle.channel.specs.Calls.{Sound}
use Rattle.channel.specs.Channel.{Told, scan}
use Rattle.channel.specs.Rows.{Packed}

-- ---- width 1, weights off, one split of property 8 at 0, residuals 5 5 5: contexts 1 0 1

split : List ℤ
split = pos 8 ∷ pos 0 ∷ pos 1 ∷ pos 2 ∷ pos 0 ∷ negsuc 0 ∷ pos 0 ∷ pos 0 ∷ pos 1 ∷ pos 0 ∷ negsuc 0 ∷ pos 0 ∷ pos 0 ∷ pos 1 ∷ pos 1 ∷ []

fives : Told
fives =
    record {
      width = 1;
      header = defaults;
      weights = false;
      mask = 2 ^ 8;
      channel = pos 0;
      stream = pos 0;
      references = λ k. [];
      residual = λ k. pos 5;
      walk = walk_of split;
    }

three_contexts : (scan fives (pos 0 ∷ pos 0 ∷ pos 0 ∷ []) (replicate 16 (pos 0)) [] 3).contexts ≡ gives 1 ∷ gives 0 ∷ gives 1 ∷ []
unfolding scan fives split fetched walk_from node_of step_of tabulate
three_contexts = refl

-- ---- width 1, two rows, weights on, one leaf: predictor 6, multiplier 3, context 7

leaf : List ℤ
leaf = negsuc 0 ∷ pos 6 ∷ pos 3 ∷ pos 0 ∷ pos 7 ∷ pos 0 ∷ []

weighed : Told
weighed =
    record {
      width = 1;
      header = defaults;
      weights = true;
      mask = 0;
      channel = pos 0;
      stream = pos 0;
      references = λ k. [];
      residual = λ k. pos 5;
      walk = flat_of leaf;
    }

small : (k : ℕ) → mag (get_or (pos 0 ∷ pos 0 ∷ []) k (pos 0)) < 2 ^ 31
small zero = omega arith
small (suc zero) = omega arith
small (suc (suc k)) = omega arith

weighed_sound : Sound weighed leaf (pos 0 ∷ pos 0 ∷ []) (replicate 16 (pos 0)) (replicate 30 0) 2
unfolding weighed leaf in_range
weighed_sound =
    record {
      arguments =
          record {
            header_in_range = refl;
            wide = refl;
            whole = refl;
            few_rows = omega arith;
            words = small;
            lent = refl;
            sixteen = omega arith;
            fits = λ k. omega arith;
            sayable = omega arith;
            walks = refl;
          };
      count = 1;
      counts = refl;
      some = omega arith;
    }

-- no reference cells are packed too
weighed_packed : (y : ℕ) → Packed weighed y []
unfolding weighed
weighed_packed y = record { each = 0; long = refl; part = λ i below. refl }
