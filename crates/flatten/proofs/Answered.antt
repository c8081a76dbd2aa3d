-- What users rely on of `build_flat_tree`, from its promise alone: with records answered for a list that is not empty, the list is sound, its
-- offsets are narrow, and record k stands in its own words of the output.
use borrow.Author.Tests.{ne_eqb}
use lib.Dec.{ltb}
use lib.IntN.{ℤ, pos}
use lib.ListN.{length, take, drop}
use mathlib.Core.Bool.{Bool, true, false}
use mathlib.Core.List.{List, [], ◌∷◌, ◌++◌}
use mathlib.Core.Path.{◌≡◌, refl, sym, ap, ◌∙◌}
use native.Mathlib.Decide.{dec_lt}
use native.Mathlib.Omega.{arith}
use Prim.Native.Nat.{ℕ, zero, suc, ◌*◌, ◌<◌}
use Rattle.integer.specs.Order.{if}
use Rattle.nodes.specs.Nodes.{node_at}
use Rattle.nodes.specs.declared.Leaf.{Leaf}
use Rattle.refusal.proofs.Outcomes.{same_given, no_refusal}
use Rattle.refusal.specs.Paper.{Outcome, gives, refuses}
use Rattle.validation.proofs.Sound.{both_given}
use Rattle.validation.proofs.ToDo.{nodes, sound_list}
use Rattle.validation.specs.Reach.{LeafAt}
use Rattle.validation.specs.Shape.{shape}
use Rattle.flatten.specs.Flatten.{ring_needed, output_needed, flattening, output_after}
use Rattle.flatten.specs.Offsets.{is_wide, offset_of, first_wide}
use Rattle.flatten.specs.Queue.{node_of_record, first_of, record_count}
use Rattle.flatten.specs.Records.{record_size, record_for, record_words}
use Rattle.flatten.proofs.Flat.{record_at_lem}

roomy : (t u : Bool) (a b count n : ℕ) → if t (refuses 8 (pos a ∷ [])) (if u (refuses 8 (pos b ∷ [])) (gives n)) ≡ gives count → count ≡ n
roomy true u a b count n e = absurd (no_refusal e)
roomy false true a b count n e = absurd (no_refusal e)
roomy false false a b count n e = sym (same_given e)

not_wide : (t : Bool) (details : List ℤ) → ◌≡◌ {A = Outcome Unit} (if t (refuses 9 details) (gives tt)) (gives tt) → t ≡ false
not_wide true details e = absurd (no_refusal e)
not_wide false details e = refl

-- no wide offset among n nodes is none at any of them
pub narrow_at : (words : List ℤ) (n k : ℕ) {l : Leaf} → first_wide words n ≡ gives tt → k < n → LeafAt words k l → is_wide l.offset ≡ false
unfolding first_wide
narrow_at words zero k e h leaf = absurd (omega arith)
narrow_at words (suc n) k {l} e h leaf =
    let both = both_given (first_wide words n) (offset_of (node_at words n) n) e in
    by (dec_lt k n) (λ lower. narrow_at words n k both.0 lower leaf) both.1
  where
    by : Dec (k < n) → (k < n → is_wide l.offset ≡ false) → offset_of (node_at words n) n ≡ gives tt → is_wide l.offset ≡ false
    by (yes lower) before last = before lower
    by (no other) before last =
        let is : n ≡ k = omega arith in
        not_wide (is_wide l.offset) (pos k ∷ []) (rw (is, leaf) at last)

module _ (words ring output : List ℤ) {count : ℕ} (answers : gives count ≡ flattening words (length ring) (length output)) (some : 0 < length words) where
  parts : (shape words ≡ gives tt) × (first_wide words (nodes words) ≡ gives tt) × (count ≡ record_count words (nodes words))
  parts =
      let there = ne_eqb (length words) 0 (λ e. omega (arith, e)) in
      let shaped = both_given (shape words) _ (sym answers) in
      let narrow = both_given (first_wide words (nodes words)) _ (rw there at shaped.1) in (
        shaped.0,
        narrow.0,
        roomy (ltb (length ring) (ring_needed (nodes words))) (ltb (length output) (output_needed (nodes words))) _ _ count (record_count words (nodes words)) narrow.1,
      )

  pub answered_shape : shape words ≡ gives tt
  answered_shape = parts.0

  pub answered_narrow : (k : ℕ) {l : Leaf} → k < nodes words → LeafAt words k l → is_wide l.offset ≡ false
  answered_narrow k h leaf = narrow_at words (nodes words) k parts.1 h leaf

  pub answered_count : count ≡ record_count words (nodes words)
  answered_count = parts.2

  -- record k is read from its own words
  pub answered_record : {output' : List ℤ} → output' ≡ output_after (flattening words (length ring) (length output)) words output
      → (k : ℕ) → k < count → take record_size (drop (record_size * k) output') ≡ record_for words (node_of_record words k) (first_of words k)
  answered_record {output'} writes k h =
      let sound = sound_list words (parts.0, some) in
      let written : output' ≡ record_words words count ++ drop (record_size * count) output = writes ∙ ap (λ (o : Outcome ℕ). output_after o words output) (sym answers) in
      rw written
      (record_at_lem words (nodes words) sound.shaped sound.some count k (omega (arith, answered_count)) h (drop (record_size * count) output))
