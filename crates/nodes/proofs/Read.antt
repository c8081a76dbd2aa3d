-- What a split that was read is known to have: a property of 0..255.
use borrow.Author.Tests.{leb-true}
use lib.Dec.{ltb, eqb}
use lib.IntN.{ℤ}
use lib.ListN.{length}
use mathlib.Core.Bool.{Bool, true, false}
use mathlib.Core.List.{List}
use mathlib.Core.Path.{◌≡◌, refl}
use native.Mathlib.Omega.{arith}
use Prim.Native.Nat.{ℕ, ◌<◌, ◌^◌}
use Rattle.integer.proofs.Tests.{and_left}
use Rattle.integer.proofs.Wrap.{bits_fit}
use Rattle.integer.specs.Order.{if}
use Rattle.integer.specs.Word.{bits_of}
use Rattle.nodes.specs.Nodes.{node_of, word, not_in_form, leaf_by, leaf_of, split_of, is_split, is_minus_one}
use Rattle.nodes.specs.declared.Leaf.{Leaf}
use Rattle.nodes.specs.declared.Node.TheVariants as node
use Rattle.nodes.specs.declared.Split.{Split}
use Rattle.predict.specs.Predictors.{numbered}
use Rattle.predict.specs.declared.predictors.NoSuchPredictor.{NoSuchPredictor}
use Rattle.predict.specs.declared.predictors.Predictor.{Predictor}
use Rattle.std.proofs.Common.{Result, Ok, Err}
use Rattle.refusal.proofs.Outcomes.{no_refusal}
use Rattle.refusal.specs.Paper.{gives}

no_leaf : {s : Split} (number : Result Predictor NoSuchPredictor) (words : List ℤ) (place : ℕ) → leaf_by number words place ≡ gives (node.Split s) → ⊥
no_leaf (Ok p) words place e = let z : ◌≡◌ {A = ℕ} 0 1 = cc in omega arith
no_leaf (Err none) words place e = no_refusal e

property_by : {s : Split} (words : List ℤ) (place : ℕ) (short leaf split : Bool) → is_split words ≡ split
    → if short (not_in_form place) (if leaf (leaf_of words place) (if split (gives (split_of words)) (not_in_form place))) ≡ gives (node.Split s)
    → s.property < 256
property_by words place true leaf split is e = absurd (no_refusal e)
property_by words place false true split is e = absurd (no_leaf (numbered (bits_of (word words 1))) words place e)
property_by words place false false false is e = absurd (no_refusal e)
property_by {s} words place false false true is e =
    let same : bits_of (word words 0) ≡ s.property = cc in
    omega (arith, leb-true (bits_of (word words 0)) 255 (and_left _ (eqb (bits_of (word words 4)) 0) is))

pub property_small : (words : List ℤ) (place : ℕ) {s : Split} → node_of words place ≡ gives (node.Split s) → s.property < 256
unfolding node_of
property_small words place split = property_by words place (ltb (length words) 5) (is_minus_one (word words 0)) (is_split words) refl split

-- multiplier and id of a leaf that was read are patterns of 32 bits
patterns_by : {l : Leaf} (words : List ℤ) (place : ℕ) (short leaf split : Bool) (number : Result Predictor NoSuchPredictor)
    → if short (not_in_form place) (if leaf (leaf_by number words place) (if split (gives (split_of words)) (not_in_form place))) ≡ gives (node.Leaf l)
    → (l.multiplier < 2 ^ 32) × (l.id < 2 ^ 32)
patterns_by words place true leaf split number e = absurd (no_refusal e)
patterns_by {l} words place false true split (Ok p) e =
    let one : bits_of (word words 3) ≡ l.multiplier = cc in
    let other : bits_of (word words 4) ≡ l.id = cc in
    (omega (arith, one, (bits_fit (word words 3)).fits), omega (arith, other, (bits_fit (word words 4)).fits))
patterns_by words place false true split (Err none) e = absurd (no_refusal e)
patterns_by words place false false true number e = let z : ◌≡◌ {A = ℕ} 0 1 = cc in absurd (omega arith)
patterns_by words place false false false number e = absurd (no_refusal e)

pub patterns_fit : (words : List ℤ) (place : ℕ) {l : Leaf} → node_of words place ≡ gives (node.Leaf l) → (l.multiplier < 2 ^ 32) × (l.id < 2 ^ 32)
unfolding node_of
patterns_fit words place leaf = patterns_by words place (ltb (length words) 5) (is_minus_one (word words 0)) (is_split words) (numbered (bits_of (word words 1))) leaf
