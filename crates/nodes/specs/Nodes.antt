-- Document 01: a node is five 32-bit words. Split: property 0..255, value, left, right, 0. Leaf: -1, predictor 0..13, offset, multiplier,
-- id; the last two are unsigned bit patterns, any value. Anything else is 3, its place the detail.
use Rattle.std.specs.Prelude.{Bool, ◌&&◌, List, [], ◌∷◌, ◌≡◌, ℕ, ◌*◌, ◌/◌, ◌%◌, ltb, leb, eqb, ℤ, pos, length, get_or, drop, Result, Ok, Err}
use Rattle.integer.specs.Order.{if}
use Rattle.integer.specs.Word.{bits_of}
use Rattle.predict.specs.Predictors.{numbered}
use Rattle.predict.specs.declared.predictors.NoSuchPredictor.{NoSuchPredictor}
use Rattle.predict.specs.declared.predictors.Predictor.{Predictor}
use Rattle.refusal.specs.Paper.{Outcome, gives, refuses, said, one_result}
use Rattle.refusal.specs.declared.Refusal.{Refusal}
use Rattle.nodes.specs.declared.Node.{Node}
use Rattle.nodes.specs.declared.Node.TheVariants as node

abbrev pub word : List ℤ → ℕ → ℤ
word words i = get_or words i (pos 0)

abbrev pub not_in_form : ℕ → Outcome Node
not_in_form place = refuses 3 (pos place ∷ [])

-- ---- a leaf: its predictor has a number of 0..13

abbrev pub leaf_by : Result Predictor NoSuchPredictor → List ℤ → ℕ → Outcome Node
leaf_by (Ok p) words place =
    gives (node.Leaf (record { predictor = p; offset = word words 2; multiplier = bits_of (word words 3); id = bits_of (word words 4) }))
leaf_by (Err none) words place = not_in_form place

abbrev pub leaf_of : List ℤ → ℕ → Outcome Node
leaf_of words place = leaf_by (numbered (bits_of (word words 1))) words place

-- ---- a split: a property of 0..255 and a last word of 0; a negative number has a pattern far above 255

abbrev pub split_of : List ℤ → Node
split_of words = node.Split (record { property = bits_of (word words 0); value = word words 1; left = bits_of (word words 2); right = bits_of (word words 3) })

abbrev pub is_split : List ℤ → Bool
is_split words = leb (bits_of (word words 0)) 255 && eqb (bits_of (word words 4)) 0

abbrev pub is_minus_one : ℤ → Bool
is_minus_one z = eqb (bits_of z) 4294967295

unfoldable pub node_of : List ℤ → ℕ → Outcome Node
node_of words place =
    if (ltb (length words) 5) (not_in_form place)
    (if (is_minus_one (word words 0)) (leaf_of words place) (if (is_split words) (gives (split_of words)) (not_in_form place)))

pub node_determined : {v : Outcome Node} (r s : Result Node Refusal) → said r ≡ v → said s ≡ v → r ≡ s
node_determined r s p q = one_result r s p q

-- ---- a list of nodes: 1 and 2, and node k, read from its own words onward

abbrev pub most_nodes : ℕ
most_nodes = 1048575

abbrev pub counted : List ℤ → Outcome ℕ
counted words =
    if (eqb (length words % 5) 0)
    (if (leb (length words / 5) most_nodes) (gives (length words / 5)) (refuses 2 (pos 0 ∷ [])))
    (refuses 1 (pos 0 ∷ []))

pub count_determined : {v : Outcome ℕ} (r s : Result ℕ Refusal) → said r ≡ v → said s ≡ v → r ≡ s
count_determined r s p q = one_result r s p q

abbrev pub node_at : List ℤ → ℕ → Outcome Node
node_at words k = node_of (drop (5 * k) words) k

-- one after the other: the first refusal counts
abbrev pub then : {A B : Type 0} → Outcome A → Outcome B → Outcome B
then (gives a) next = next
then (refuses number details) next = refuses number details
