-- What a record is read as, by its first word; what a split that was read is known to have: properties of 0..255; and what the count says
-- of the words.
use borrow.Author.Tests.{le-ltb, eq-eqb, ne_eqb, leb-true, eqb-true}
use lib.Dec.{leb, eqb}
use lib.IntN.{ℤ, pos}
use lib.ListN.{length}
use mathlib.Core.Bool.{Bool, true, false}
use mathlib.Core.List.{List, [], ◌∷◌}
use mathlib.Core.Path.{◌≡◌, refl, sym, ap, ◌∙◌}
use mir.Syntax.{w32}
use mir.Val.{SFits, of_z}
use native.Mathlib.Omega.{arith}
use Prim.Native.Nat.{ℕ, ◌*◌, ◌/◌, ◌%◌, ◌≤◌, ◌<◌}
use Rattle.integer.proofs.Tests.{and_left, and_right}
use Rattle.integer.proofs.Wrap.{bits_in_range}
use Rattle.integer.specs.Order.{if}
use Rattle.integer.specs.Word.{bits_of}
use Rattle.nodes.specs.Nodes.{word}
use Rattle.refusal.proofs.Outcomes.{same_given, no_refusal}
use Rattle.refusal.specs.Paper.{gives, refuses}
use Rattle.flat.specs.Records.{counted, most_records, record_of, not_in_form, leaf_of, low_half, high_half, split_of, is_split, flat_split, split_by}
use Rattle.flat.specs.declared.records.FlatSplit.{FlatSplit}

-- each property of a split is below 256
abbrev pub Small : FlatSplit → Type 0
Small s = (s.property < 256) × (s.left_property < 256) × (s.right_property < 256)

small_by : {s : FlatSplit} (words : List ℤ) (place : ℕ) (split : Bool) → is_split words ≡ split → if split (gives (split_of words)) (not_in_form place) ≡ gives s → Small s
small_by words place false is e = absurd (no_refusal e)
small_by words place true is e =
    let halves = and_right (leb (bits_of (word words 0)) 255) _ is in
    let first = leb-true (bits_of (word words 0)) 255 (and_left _ _ is) in
    let low = leb-true (low_half (word words 5)) 255 (and_left _ _ halves) in
    let high = leb-true (high_half (word words 5)) 255 (and_right (leb (low_half (word words 5)) 255) _ halves) in
    rw (← (same_given e)) (omega (arith, first), omega (arith, low), omega (arith, high))

pub properties_small : (words : List ℤ) (place : ℕ) {s : FlatSplit} → flat_split words place ≡ gives s → Small s
properties_small words place e = small_by words place (is_split words) refl e

-- the first of six words, whose bits the code compares with those of -1, tells whether they are read as a leaf or as a split
module _ (words : List ℤ) (place : ℕ) (six : 6 ≤ length words) (first : ℤ) (is_first : word words 0 ≡ first) (fit : SFits w32 first) where
  pattern : bits_of (word words 0) ≡ of_z w32 first
  pattern = ap bits_of is_first ∙ bits_in_range first fit

  pub leaf_here : of_z w32 first ≡ 4294967295 → record_of words place ≡ leaf_of words place
  unfolding record_of
  leaf_here e = simp (le-ltb (length words) 6 six, eq-eqb (bits_of (word words 0)) 4294967295 (pattern ∙ e))

  pub split_here : (of_z w32 first ≡ 4294967295 → ⊥) → record_of words place ≡ split_by words place
  unfolding record_of
  split_here other = simp (le-ltb (length words) 6 six, ne_eqb (bits_of (word words 0)) 4294967295 (λ e. other (sym pattern ∙ e)))

-- an answer behind the two tests: both held
tested : (a b : Bool) (m n : ℕ) → if a (if b (gives m) (refuses 2 (pos 0 ∷ []))) (refuses 1 (pos 0 ∷ [])) ≡ gives n → (a ≡ true) × (b ≡ true) × (m ≡ n)
tested true true m n e = (refl, refl, same_given e)
tested true false m n e = absurd (no_refusal e)
tested false b m n e = absurd (no_refusal e)

-- counted records have six words each, and are not too many
pub counted_fits : (words : List ℤ) (n : ℕ) → counted words ≡ gives n → (length words ≡ 6 * n) × (n ≤ most_records)
counted_fits words n e =
    let (sixes, few, is) = tested (eqb (length words % 6) 0) (leb (length words / 6) most_records) (length words / 6) n e in
    (omega (arith, eqb-true (length words % 6) 0 sixes), omega (arith, leb-true (length words / 6) most_records few))
