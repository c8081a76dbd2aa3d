-- The six words of each record.
use Rattle.std.specs.Prelude.{List, [], ◌∷◌, ◌++◌, ◌≡◌, refl, ℕ, zero, suc, ◌+◌, ◌*◌, ◌%◌, ℤ, pos, negsuc, Ok}
use Rattle.integer.specs.Word.{bits_of, wrap}
use Rattle.nodes.specs.Nodes.{node_at}
use Rattle.nodes.specs.declared.Leaf.{Leaf}
use Rattle.nodes.specs.declared.Node.{Node}
use Rattle.nodes.specs.declared.Node.TheVariants as node
use Rattle.predict.specs.declared.predictors.Predictor.{Predictor}
use Rattle.predict.specs.declared.predictors.Predictor.TheVariants.{
  Zero,
  West,
  North,
  AverageWestAndNorth,
  Select,
  Gradient,
  Weighted,
  NorthEast,
  NorthWest,
  WestWest,
  AverageWestAndNorthWest,
  AverageNorthAndNorthWest,
  AverageNorthAndNorthEast,
  AverageAll,
}
use Rattle.predict.specs.Predictors.{numbered}
use Rattle.refusal.specs.Paper.{Outcome, gives, refuses}
use Rattle.flatten.specs.Queue.{node_of_record, first_of}

-- the words of a record
abbrev pub record_size : ℕ
record_size = 6

-- the number of a predictor, 0..13
abbrev pub predictor_number : Predictor → ℕ
predictor_number Zero = 0
predictor_number West = 1
predictor_number North = 2
predictor_number AverageWestAndNorth = 3
predictor_number Select = 4
predictor_number Gradient = 5
predictor_number Weighted = 6
predictor_number NorthEast = 7
predictor_number NorthWest = 8
predictor_number WestWest = 9
predictor_number AverageWestAndNorthWest = 10
predictor_number AverageNorthAndNorthWest = 11
predictor_number AverageNorthAndNorthEast = 12
predictor_number AverageAll = 13

-- it is the number by which a node names its predictor
pub numbered_again : (p : Predictor) → numbered (predictor_number p) ≡ Ok p
numbered_again Zero = refl
numbered_again West = refl
numbered_again North = refl
numbered_again AverageWestAndNorth = refl
numbered_again Select = refl
numbered_again Gradient = refl
numbered_again Weighted = refl
numbered_again NorthEast = refl
numbered_again NorthWest = refl
numbered_again WestWest = refl
numbered_again AverageWestAndNorthWest = refl
numbered_again AverageNorthAndNorthWest = refl
numbered_again AverageNorthAndNorthEast = refl
numbered_again AverageAll = refl

-- multiplier and context by their bit patterns, the offset by its low half
abbrev pub leaf_words : Leaf → List ℤ
leaf_words l =
    negsuc 0 ∷ pos (predictor_number l.predictor) ∷ wrap (pos l.multiplier) ∷ pos 0 ∷ wrap (pos l.id) ∷ pos (bits_of l.offset % 65536) ∷ []

-- what a child tests: 0 and 0 for a leaf
abbrev pub property_of : Outcome Node → ℕ
property_of (gives (node.Split s)) = s.property
property_of (gives (node.Leaf l)) = 0
property_of (refuses number details) = 0

abbrev pub value_of : Outcome Node → ℤ
value_of (gives (node.Split s)) = s.value
value_of (gives (node.Leaf l)) = pos 0
value_of (refuses number details) = pos 0

module _ (words : List ℤ) where
  -- -1, predictor, multiplier, 0, context, the offset's low half; property, value, the children's values, the first grandchild, the
  -- children's properties in the halves of a word
  abbrev pub record_for : Outcome Node → ℕ → List ℤ
  record_for (gives (node.Leaf l)) first = leaf_words l
  record_for (gives (node.Split s)) first =
      pos s.property
      ∷ s.value
      ∷ value_of (node_at words s.left)
      ∷ value_of (node_at words s.right)
      ∷ pos first
      ∷ pos (property_of (node_at words s.left) + 65536 * property_of (node_at words s.right))
      ∷ []
  record_for (refuses number details) first = []

  -- the words of the first k records
  unfoldable pub record_words : ℕ → List ℤ
  record_words zero = []
  record_words (suc k) = record_words k ++ record_for (node_of_record words k) (first_of words k)
