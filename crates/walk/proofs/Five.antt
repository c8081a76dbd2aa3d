-- A node is told by its own five words: what follows them in the list changes nothing.
use borrow.Author.Tests.{le-ltb}
use lib.Dec.{ltb}
use lib.IntN.{ℤ}
use lib.ListN.{length, take, drop, length-drop}
use mathlib.Core.Bool.{false}
use mathlib.Core.List.{List, [], ◌∷◌}
use mathlib.Core.Path.{◌≡◌, refl}
use native.Mathlib.Omega.{arith}
use Prim.Native.Nat.{ℕ, suc, ◌+◌, ◌*◌, ◌≤◌}
use Rattle.integer.specs.Word.{bits_of}
use Rattle.nodes.specs.Nodes.{leaf_by, node_of, node_at}
use Rattle.predict.specs.Predictors.{numbered}
use Rattle.predict.specs.declared.predictors.NoSuchPredictor.{NoSuchPredictor}
use Rattle.predict.specs.declared.predictors.Predictor.{Predictor}
use Rattle.std.proofs.Common.{Result, Ok, Err}

module _ (a b c d e : ℤ) (rest : List ℤ) (place : ℕ) where
  leaf_five : (number : Result Predictor NoSuchPredictor) → leaf_by number (a ∷ b ∷ c ∷ d ∷ e ∷ []) place ≡ leaf_by number (a ∷ b ∷ c ∷ d ∷ e ∷ rest) place
  leaf_five (Ok p) = refl
  leaf_five (Err none) = refl

five : (words : List ℤ) (place : ℕ) → 5 ≤ length words → node_of (take 5 words) place ≡ node_of words place
unfolding node_of
five (a ∷ b ∷ c ∷ d ∷ e ∷ rest) place h =
    let long : ltb (suc (suc (suc (suc (suc (length rest)))))) 5 ≡ false = le-ltb (suc (suc (suc (suc (suc (length rest)))))) 5 (omega arith) in
    simp (long, leaf_five a b c d e rest place (numbered (bits_of b)))
five (a ∷ b ∷ c ∷ d ∷ []) place h = absurd (omega arith)
five (a ∷ b ∷ c ∷ []) place h = absurd (omega arith)
five (a ∷ b ∷ []) place h = absurd (omega arith)
five (a ∷ []) place h = absurd (omega arith)
five [] place h = absurd (omega arith)

pub own_words : (words : List ℤ) (k : ℕ) → 5 * k + 5 ≤ length words → node_of (take 5 (drop (5 * k) words)) k ≡ node_at words k
own_words words k h = five (drop (5 * k) words) k (omega (arith, length-drop (5 * k) words))
