-- Document 01: a flat record is six 32-bit words. Split: property, value, left child's value, right child's value, first grandchild, the
-- two children's properties as 16-bit halves, the left one low; each property is 0..255. Leaf: -1, predictor 0..13, multiplier, 0,
-- context, and the offset in the low half of the last word, its high half 0. Anything else is 3, its place the detail.
use Rattle.std.specs.Prelude.{Bool, ◌&&◌, List, [], ◌∷◌, ◌≡◌, ℕ, ◌*◌, ◌/◌, ◌%◌, ltb, leb, eqb, ℤ, pos, ◌-ℤ◌, length, drop, Result, Ok, Err}
use Rattle.integer.specs.Order.{if}
use Rattle.integer.specs.Word.{bits_of}
use Rattle.nodes.specs.Nodes.{word, is_minus_one}
use Rattle.predict.specs.Predictors.{numbered}
use Rattle.predict.specs.declared.predictors.NoSuchPredictor.{NoSuchPredictor}
use Rattle.predict.specs.declared.predictors.Predictor.{Predictor}
use Rattle.refusal.specs.Paper.{Outcome, gives, refuses, said, one_result}
use Rattle.refusal.specs.declared.Refusal.{Refusal}
use Rattle.flat.specs.declared.records.FlatLeaf.{FlatLeaf}
use Rattle.flat.specs.declared.records.FlatSplit.{FlatSplit}
use Rattle.flat.specs.declared.records.Record.{Record}
use Rattle.flat.specs.declared.records.Record.TheVariants as record'

abbrev pub not_in_form : {A : Type 0} → ℕ → Outcome A
not_in_form place = refuses 3 (pos place ∷ [])

-- a leaf or a split, once in form, is a record
abbrev pub as_record : {A : Type 0} → (A → Record) → Outcome A → Outcome Record
as_record wrap (gives it) = gives (wrap it)
as_record wrap (refuses number details) = refuses number details

-- the halves of a word's pattern
abbrev pub low_half : ℤ → ℕ
low_half z = bits_of z % 65536

abbrev pub high_half : ℤ → ℕ
high_half z = bits_of z / 65536

-- 16 bits as signed
abbrev pub signed_half : ℕ → ℤ
signed_half half = if (ltb half 32768) (pos half) (pos half -ℤ pos 65536)

-- ---- a leaf

abbrev pub leaf_by : Result Predictor NoSuchPredictor → List ℤ → ℕ → Outcome FlatLeaf
leaf_by (Ok p) words place =
    gives (record { predictor = p; multiplier = bits_of (word words 2); context = bits_of (word words 4); offset = signed_half (low_half (word words 5)) })
leaf_by (Err none) words place = not_in_form place

abbrev pub is_leaf : List ℤ → Bool
is_leaf words = eqb (bits_of (word words 3)) 0 && eqb (high_half (word words 5)) 0

abbrev pub flat_leaf : List ℤ → ℕ → Outcome FlatLeaf
flat_leaf words place = if (is_leaf words) (leaf_by (numbered (bits_of (word words 1))) words place) (not_in_form place)

abbrev pub leaf_of : List ℤ → ℕ → Outcome Record
leaf_of words place = as_record record'.Leaf (flat_leaf words place)

-- ---- a split: a negative first word has a pattern far above 255

abbrev pub split_of : List ℤ → FlatSplit
split_of words =
    record {
      property = bits_of (word words 0);
      value = word words 1;
      left_value = word words 2;
      right_value = word words 3;
      first = bits_of (word words 4);
      left_property = low_half (word words 5);
      right_property = high_half (word words 5);
    }

abbrev pub is_split : List ℤ → Bool
is_split words = leb (bits_of (word words 0)) 255 && (leb (low_half (word words 5)) 255 && leb (high_half (word words 5)) 255)

abbrev pub flat_split : List ℤ → ℕ → Outcome FlatSplit
flat_split words place = if (is_split words) (gives (split_of words)) (not_in_form place)

abbrev pub split_by : List ℤ → ℕ → Outcome Record
split_by words place = as_record record'.Split (flat_split words place)

unfoldable pub record_of : List ℤ → ℕ → Outcome Record
record_of words place = if (ltb (length words) 6) (not_in_form place) (if (is_minus_one (word words 0)) (leaf_of words place) (split_by words place))

-- ---- determinacy

pub record_determined : {v : Outcome Record} (r s : Result Record Refusal) → said r ≡ v → said s ≡ v → r ≡ s
record_determined r s p q = one_result r s p q

-- ---- a list of records: 1 and 2, and record k, read from its own words onward

abbrev pub most_records : ℕ
most_records = 2097149

-- nodes' `count_determined` leaves one answer
abbrev pub counted : List ℤ → Outcome ℕ
counted words =
    if (eqb (length words % 6) 0)
    (if (leb (length words / 6) most_records) (gives (length words / 6)) (refuses 2 (pos 0 ∷ [])))
    (refuses 1 (pos 0 ∷ []))

abbrev pub record_at : List ℤ → ℕ → Outcome Record
record_at words k = record_of (drop (6 * k) words) k
