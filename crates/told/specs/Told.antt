-- What a C function answers and writes of an outcome: 0, or a refusal's number with its details as the first words of the list `told`.
-- A list that is too short is 8, before all else, and nothing is told.
use Rattle.std.specs.Prelude.{Bool, List, [], ◌++◌, ◌≡◌, ℕ, leb, ℤ, pos, length, get_or, drop}
use Rattle.integer.specs.Order.{if}
use Rattle.predict.specs.declared.neighbours.PredictionData.{PredictionData}
use Rattle.refusal.specs.Paper.{Outcome, gives, refuses, details_of, one_value}
use Rattle.refusal.specs.declared.Refusal.TheVariants.{EmptySide}
use Rattle.refusal.specs.declared.Side.{Side}

abbrev pub done_or : {A : Type 0} → Outcome A → ℕ
done_or (gives a) = 0
done_or (refuses number details) = number

-- the words that tell it
abbrev pub telling : {A : Type 0} → (A → List ℤ) → Outcome A → List ℤ
telling tells (gives a) = tells a
telling tells (refuses number details) = details

-- the list with these as its first words
abbrev pub begun : List ℤ → List ℤ → List ℤ
begun first words = first ++ drop (length first) words

pub record Tells {A : Type 0} (tells : A → List ℤ) (long : Bool) (o : Outcome A) (words : List ℤ) (r : ℕ) (words' : List ℤ) : Type 0 where
  pub answers : r ≡ if long (done_or o) 8
  pub holds : words' ≡ if long (begun (telling tells o) words) words

abbrev pub nothing : Unit {0} → List ℤ
nothing done = []

-- the five details of an empty side
abbrev pub side_of : Side → List ℤ
side_of side = details_of (EmptySide side)

-- any refusal's details have room
abbrev pub room : List ℤ → Bool
room words = leb 5 (length words)

-- a pixel's neighbours, the seven words in their order
abbrev pub data_of : List ℤ → PredictionData
data_of words = record {
  left = get_or words 0 (pos 0);
  top = get_or words 1 (pos 0);
  toptop = get_or words 2 (pos 0);
  topleft = get_or words 3 (pos 0);
  topright = get_or words 4 (pos 0);
  leftleft = get_or words 5 (pos 0);
  toprightright = get_or words 6 (pos 0);
}

pub tells_determined : {A : Type 0} (tells : A → List ℤ) (long : Bool) (o : Outcome A) (w : List ℤ) {r s : ℕ} {a b : List ℤ}
    → Tells tells long o w r a → Tells tells long o w s b → (r ≡ s) × (a ≡ b)
tells_determined tells long o w p q = (one_value p.answers q.answers, one_value p.holds q.holds)
