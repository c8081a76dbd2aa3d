-- Module 8 of document 01, the flat walk: from record 0 down to a leaf, each split record deciding two levels. It tests 1, 2, 5, then 16
-- cells (10), then only the records it enters, at each 3, 4, 10. Both children's properties must have cells, also where only one is compared.
use Rattle.std.specs.Prelude.{Bool, ◌&&◌, List, [], ◌∷◌, ◌≡◌, ℕ, zero, suc, ◌+◌, ltb, leb, eqb, ℤ, pos, length, Result}
use Rattle.std.specs.Int.Signed.{lt_z}
use Rattle.integer.specs.Order.{if}
use Rattle.nodes.specs.Nodes.{word}
use Rattle.nodes.specs.declared.Leaf.{Leaf}
use Rattle.predict.specs.declared.neighbours.PredictionData.{PredictionData}
use Rattle.refusal.specs.Paper.{Outcome, gives, refuses, said}
use Rattle.refusal.specs.declared.Refusal.{Refusal}
use Rattle.walk.specs.Walk.{answer_of, onward, walk_determined}
use Rattle.walk.specs.declared.PredictionResult.{PredictionResult}
use Rattle.flat.specs.Records.{counted, record_at}
use Rattle.flat.specs.declared.records.FlatSplit.{FlatSplit}
use Rattle.flat.specs.declared.records.FlatLeaf.{FlatLeaf}
use Rattle.flat.specs.declared.records.Record.{Record}
use Rattle.flat.specs.declared.records.Record.TheVariants as record'

-- a leaf answers as in the direct walk
abbrev pub as_leaf : FlatLeaf → Leaf
as_leaf l = record { predictor = l.predictor; offset = l.offset; multiplier = l.multiplier; id = l.context }

-- ---- a split record at a place of `count` records

-- its four grandchildren lie later and inside the list
abbrev pub in_order : FlatSplit → ℕ → ℕ → Bool
in_order s place count = ltb place s.first && ltb (s.first + 3) count

abbrev pub most : ℕ → ℕ → ℕ
most a b = if (ltb a b) b a

-- for the largest of the three properties
abbrev pub cells_needed : FlatSplit → ℕ
cells_needed s = most s.property (most s.left_property s.right_property) + 1

-- left holds cell > value, in the split and in the child that it leads to
abbrev pub is_over : List ℤ → ℕ → ℤ → Bool
is_over cells property value = lt_z value (word cells property)

abbrev pub grandchild : List ℤ → FlatSplit → ℕ
grandchild cells s =
    if (is_over cells s.property s.value)
    (if (is_over cells s.left_property s.left_value) 0 1)
    (if (is_over cells s.right_property s.right_value) 2 3)

-- where the walk goes on: 4, then 10
unfoldable pub step_of : List ℤ → ℕ → FlatSplit → ℕ → Outcome ℕ
step_of cells count s place =
    if (in_order s place count)
    (if (leb (cells_needed s) (length cells)) (gives (s.first + grandchild cells s)) (refuses 10 (pos (cells_needed s) ∷ [])))
    (refuses 4 (pos place ∷ []))

-- ---- the walk from a place on, the split records entered before counted in hops

abbrev pub enter : (FlatSplit → Outcome ℕ) → (FlatLeaf → PredictionResult) → Outcome Record → ℕ → (ℕ → ℕ → Outcome PredictionResult) → Outcome PredictionResult
enter step answer (refuses number details) hops walk_on = refuses number details
enter step answer (gives (record'.Leaf l)) hops walk_on = gives (answer l)
enter step answer (gives (record'.Split s)) hops walk_on = onward (step s) hops walk_on

module _ (words cells : List ℤ) (count : ℕ) (d : PredictionData) (wp : ℤ) where
  -- The fuel is for the recursion only. Each place is later than the one before and below the count, so that a walk which starts with
  -- as much fuel as records lie ahead never meets 0 (proofs/Fuel.antt).
  unfoldable pub flat_from : ℕ → ℕ → ℕ → Outcome PredictionResult
  flat_from zero place hops = refuses 4 (pos place ∷ [])
  flat_from (suc fuel) place hops =
      enter (λ s. step_of cells count s place) (λ l. answer_of (as_leaf l) d wp hops) (record_at words place) hops (flat_from fuel)

-- ---- the whole walk: 5, then 16 cells

abbrev pub flat_by : Outcome ℕ → List ℤ → List ℤ → PredictionData → ℤ → Outcome PredictionResult
flat_by (refuses number details) words cells d wp = refuses number details
flat_by (gives count) words cells d wp =
    if (eqb count 0) (refuses 5 (pos 0 ∷ []))
    (if (ltb (length cells) 16) (refuses 10 (pos 16 ∷ [])) (flat_from words cells count d wp count 0 0))

abbrev pub flat_of : List ℤ → List ℤ → PredictionData → ℤ → Outcome PredictionResult
flat_of words cells d wp = flat_by (counted words) words cells d wp

-- ---- determinacy

pub flat_determined : (words cells : List ℤ) (d : PredictionData) (wp : ℤ) (r s : Result PredictionResult Refusal) → said r ≡ flat_of words cells d wp → said s ≡ flat_of words cells d wp → r ≡ s
flat_determined words cells d wp r s p q = walk_determined r s p q
