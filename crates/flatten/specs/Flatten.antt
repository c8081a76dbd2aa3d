-- Module 7 of document 01: what flattening answers, and what the ring and the output hold afterwards.
use Rattle.std.specs.Prelude.{List, [], ◌∷◌, ◌++◌, ◌≡◌, ℕ, ◌+◌, ◌-◌, ◌*◌, ◌/◌, ltb, eqb, ℤ, pos, length, drop, Result}
use Rattle.integer.specs.Fill.{filled}
use Rattle.integer.specs.Order.{if}
use Rattle.nodes.specs.Nodes.{then}
use Rattle.refusal.specs.Paper.{Outcome, gives, refuses, said, one_result, one_value}
use Rattle.refusal.specs.declared.Refusal.{Refusal}
use Rattle.validation.specs.Shape.{shape}
use Rattle.flatten.specs.Offsets.{first_wide}
use Rattle.flatten.specs.Queue.{record_count}
use Rattle.flatten.specs.Records.{record_size, record_words}

-- the words that n nodes need
abbrev pub ring_needed : ℕ → ℕ
ring_needed n = n + 1

abbrev pub output_needed : ℕ → ℕ
output_needed n = record_size * (2 * n - 1)

-- 9, then 8, the ring before the output
abbrev pub flattening_of : List ℤ → ℕ → ℕ → ℕ → Outcome ℕ
flattening_of words n ring output =
    then (first_wide words n)
    (if (ltb ring (ring_needed n)) (refuses 8 (pos (ring_needed n) ∷ []))
    (if (ltb output (output_needed n)) (refuses 8 (pos (output_needed n) ∷ [])) (gives (record_count words n))))

-- 1 to 4 first; the empty list gives no records and needs nothing
abbrev pub flattening : List ℤ → ℕ → ℕ → Outcome ℕ
flattening words ring output =
    then (shape words) (if (eqb (length words) 0) (gives 0) (flattening_of words (length words / 5) ring output))

-- the ring's words are zero where records were written, and nothing has changed where none were
abbrev pub ring_after : Outcome ℕ → List ℤ → List ℤ → List ℤ
ring_after (gives count) words ring = if (eqb (length words) 0) ring (filled (λ i. pos 0) (ring_needed (length words / 5)) ring)
ring_after (refuses number details) words ring = ring

-- the records from the front, and beyond them the output as it was
abbrev pub output_after : Outcome ℕ → List ℤ → List ℤ → List ℤ
output_after (gives count) words output = record_words words count ++ drop (record_size * count) output
output_after (refuses number details) words output = output

-- ---- determinacy

pub flattens_determined : (words ring output : List ℤ) {r s : Result ℕ Refusal} {a b c d : List ℤ}
    → said r ≡ flattening words (length ring) (length output)
    → a ≡ ring_after (flattening words (length ring) (length output)) words ring
    → b ≡ output_after (flattening words (length ring) (length output)) words output
    → said s ≡ flattening words (length ring) (length output)
    → c ≡ ring_after (flattening words (length ring) (length output)) words ring
    → d ≡ output_after (flattening words (length ring) (length output)) words output
    → (r ≡ s) × (a ≡ c) × (b ≡ d)
flattens_determined words ring output {r} {s} answers leaves writes answers' leaves' writes' =
    (one_result r s answers answers', one_value leaves leaves', one_value writes writes')
