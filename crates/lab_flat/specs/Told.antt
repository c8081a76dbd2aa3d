-- What the C functions of flattening and of the walks answer and write, from the library's own definitions: 0, or a refusal's number with
-- its details as the first words of the list `told`. A list that is too short is 8, before all else, and nothing is told.
use Rattle.std.specs.Prelude.{◌&&◌, List, [], ◌∷◌, ◌≡◌, ℕ, ◌%◌, leb, ℤ, pos, length}
use Rattle.flatten.specs.Flatten.{flattening, ring_after, output_after}
use Rattle.integer.specs.Order.{if}
use Rattle.predict.specs.declared.neighbours.PredictionData.{PredictionData}
use Rattle.refusal.specs.Paper.{Outcome, one_value}
use Rattle.told.specs.Told.{Tells, room, data_of, tells_determined}
use Rattle.walk.specs.declared.PredictionResult.{PredictionResult}

-- ---- a walk, direct or flat

abbrev pub result_words : PredictionResult → List ℤ
result_words r = r.guess ∷ pos r.multiplier ∷ pos r.context ∷ pos r.hops ∷ []

abbrev pub WalkTold : (PredictionData → ℤ → Outcome PredictionResult) → List ℤ → ℤ → List ℤ → ℕ → List ℤ → Type 0
WalkTold walk d wp = λ told r told'. Tells result_words (leb 7 (length d) && room told) (walk (data_of d) wp) told r told'

-- ---- flattening

-- by its low 32 bits
abbrev pub count_words : ℕ → List ℤ
count_words count = pos (count % 4294967296) ∷ []

module _ (words ring output : List ℤ) where
  abbrev pub answer : Outcome ℕ
  answer = flattening words (length ring) (length output)

  pub flatten_determined : (told : List ℤ) {r s : ℕ} {ring' ring'' output' output'' told' told'' : List ℤ}
      → Tells count_words (room told) answer told r told'
      → ring' ≡ if (room told) (ring_after answer words ring) ring
      → output' ≡ if (room told) (output_after answer words output) output
      → Tells count_words (room told) answer told s told''
      → ring'' ≡ if (room told) (ring_after answer words ring) ring
      → output'' ≡ if (room told) (output_after answer words output) output
      → (r ≡ s) × (told' ≡ told'') × (ring' ≡ ring'') × (output' ≡ output'')
  flatten_determined told tells leaves writes tells' leaves' writes' =
      let same = tells_determined count_words (room told) answer told tells tells' in
      (same.0, same.1, one_value leaves leaves', one_value writes writes')
