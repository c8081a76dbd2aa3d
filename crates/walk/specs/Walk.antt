-- Module 8 of document 01, the direct walk: from the root down to a leaf, left holding cell > value. It tests 1, 2, 5, then 16
-- cells (10), then only the nodes it enters, at each 3, 4, 10.
use Rattle.std.specs.Prelude.{Bool, ◌&&◌, List, [], ◌∷◌, ◌≡◌, ℕ, zero, suc, ◌+◌, ltb, eqb, ℤ, pos, ◌+ℤ◌, length, Result}
use Rattle.std.specs.Int.Signed.{lt_z}
use Rattle.integer.specs.Order.{if}
use Rattle.nodes.specs.Nodes.{word, node_at, counted}
use Rattle.nodes.specs.declared.Leaf.{Leaf}
use Rattle.nodes.specs.declared.Node.{Node}
use Rattle.nodes.specs.declared.Node.TheVariants as node
use Rattle.nodes.specs.declared.Split.{Split}
use Rattle.predict.specs.Predictors.{guess}
use Rattle.predict.specs.declared.neighbours.PredictionData.{PredictionData}
use Rattle.refusal.specs.Paper.{Outcome, gives, refuses, said, one_result}
use Rattle.refusal.specs.declared.Refusal.{Refusal}
use Rattle.walk.specs.Wide.{wrap64}
use Rattle.walk.specs.declared.PredictionResult.{PredictionResult}

-- ---- a leaf: guess plus offset wraps at 64 bits; hops is how many splits were entered before it

abbrev pub answer_of : Leaf → PredictionData → ℤ → ℕ → PredictionResult
answer_of leaf d wp hops =
    record { guess = wrap64 (guess leaf.predictor d wp +ℤ leaf.offset); multiplier = leaf.multiplier; context = leaf.id; hops = hops }

-- ---- a split at a place of n nodes

-- its children lie later and inside the list, side by side
abbrev pub in_order : Split → ℕ → ℕ → Bool
in_order s place n = ltb place s.left && (eqb s.right (s.left + 1) && ltb s.right n)

-- left holds cell > value
abbrev pub chosen : List ℤ → Split → ℕ
chosen cells s = if (lt_z s.value (word cells s.property)) s.left s.right

-- where the walk goes on: 4, then 10
unfoldable pub step_of : List ℤ → ℕ → Split → ℕ → Outcome ℕ
step_of cells n s place =
    if (in_order s place n)
    (if (ltb s.property (length cells)) (gives (chosen cells s)) (refuses 10 (pos (s.property + 1) ∷ [])))
    (refuses 4 (pos place ∷ []))

-- ---- the walk from a place on, the splits entered before counted in hops

abbrev pub onward : Outcome ℕ → ℕ → (ℕ → ℕ → Outcome PredictionResult) → Outcome PredictionResult
onward (gives place) hops walk_on = walk_on place (suc hops)
onward (refuses number details) hops walk_on = refuses number details

abbrev pub enter : (Split → Outcome ℕ) → (Leaf → PredictionResult) → Outcome Node → ℕ → (ℕ → ℕ → Outcome PredictionResult) → Outcome PredictionResult
enter step answer (refuses number details) hops walk_on = refuses number details
enter step answer (gives (node.Leaf l)) hops walk_on = gives (answer l)
enter step answer (gives (node.Split s)) hops walk_on = onward (step s) hops walk_on

module _ (words cells : List ℤ) (n : ℕ) (d : PredictionData) (wp : ℤ) where
  -- The fuel is for the recursion only. Each place is later than the one before and below n, so that a walk which starts with as
  -- many nodes' fuel as lie ahead never meets 0 (proofs/Fuel.antt).
  unfoldable pub walk_from : ℕ → ℕ → ℕ → Outcome PredictionResult
  walk_from zero place hops = refuses 4 (pos place ∷ [])
  walk_from (suc fuel) place hops =
      enter (λ s. step_of cells n s place) (λ l. answer_of l d wp hops) (node_at words place) hops (walk_from fuel)

-- ---- the whole walk

-- 5, then 16 cells
abbrev pub walk_by : Outcome ℕ → List ℤ → List ℤ → PredictionData → ℤ → Outcome PredictionResult
walk_by (refuses number details) words cells d wp = refuses number details
walk_by (gives n) words cells d wp =
    if (eqb n 0) (refuses 5 (pos 0 ∷ []))
    (if (ltb (length cells) 16) (refuses 10 (pos 16 ∷ [])) (walk_from words cells n d wp n 0 0))

abbrev pub walk_of : List ℤ → List ℤ → PredictionData → ℤ → Outcome PredictionResult
walk_of words cells d wp = walk_by (counted words) words cells d wp

-- ---- determinacy

pub walk_determined : {v : Outcome PredictionResult} (r s : Result PredictionResult Refusal) → said r ≡ v → said s ≡ v → r ≡ s
walk_determined r s p q = one_result r s p q
