-- Module 4 of document 01, the state: it keeps its place, ask and put alternate in raster order.
use Rattle.std.specs.Prelude.{Bool, true, false, ◌&&◌, not, List, [], ◌∷◌, ◌≡◌, ℕ, ◌+◌, ◌^◌, ltb, leb, eqb, ℤ, pos, length, Result}
use Rattle.blend.specs.Blend.{in_range, predicted_of, errors_of, possible}
use Rattle.blend.specs.declared.Found.{Found}
use Rattle.blend.specs.declared.Prediction.{Prediction}
use Rattle.blend.specs.declared.WeightedHeader.{WeightedHeader}
use Rattle.integer.specs.Fill.{filled}
use Rattle.integer.specs.Order.{if}
use Rattle.predict.specs.declared.neighbours.PredictionData.{PredictionData}
use Rattle.refusal.specs.Paper.{Outcome, gives, refuses, said, one_result, one_value}
use Rattle.refusal.specs.declared.Refusal.{Refusal}
use Rattle.weighted.specs.Memory.{needed, errors_read, sums_read, updated}
use Rattle.weighted.specs.declared.state.WeightedState.{WeightedState}
use Rattle.weighted.specs.declared.state.Answer.{Answer}

-- ---- what is tested, in the paper's order

-- where the test fails the number with its detail, else what follows
abbrev pub test : {A : Type 0} → Bool → ℕ → ℕ → Outcome A → Outcome A
test true number detail next = next
test false number detail next = refuses number (pos detail ∷ [])

abbrev pub is_width : ℕ → Bool
is_width width = leb 1 width && leb width 65536

-- a pixel of the picture: an ask at row 2^30 is out of it
abbrev pub is_place : WeightedState → Bool
is_place s = is_width s.width && ltb s.x s.width && ltb s.y (2 ^ 30)

-- the header's range, the place, the turn, the memory lent
unfoldable pub allowed : {A : Type 0} → WeightedState → Bool → ℕ → Outcome A → Outcome A
allowed s turn lent next =
    test (in_range s.header) 12 0
    (test (is_place s) 11 0
    (test turn 13 0
    (test (leb (needed s.width) lent) 8 (needed s.width) next)))

-- ---- opening

abbrev pub nothing : Found
nothing = record { p0 = pos 0; p1 = pos 0; p2 = pos 0; p3 = pos 0; pred = pos 0 }

abbrev pub at_start : WeightedHeader → ℕ → WeightedState
at_start h width = record { header = h; width = width; x = 0; y = 0; asked = false; found = nothing }

abbrev pub opens : WeightedHeader → ℕ → List ℕ → Outcome WeightedState
opens h width m =
    test (in_range h) 12 0 (test (is_width width) 11 0 (test (leb (needed width) (length m)) 8 (needed width) (gives (at_start h width))))

-- opening clears the words it needs
abbrev pub cleared : List ℕ → Outcome WeightedState → List ℕ
cleared m (gives s) = filled (λ k. 0) (needed s.width) m
cleared m (refuses number details) = m

-- ---- ask

-- a state that remembers what was found, for the put, and what the ask tells
pub record Answered : Type 0 where
  pub state : WeightedState
  pub guess : ℤ
  pub property : ℤ

abbrev pub answered : WeightedState → Prediction → Answered
answered s p =
    record {
      state = record { header = s.header; width = s.width; x = s.x; y = s.y; asked = true; found = p.found };
      guess = p.guess;
      property = p.property;
    }

abbrev pub predicted_at : WeightedState → List ℕ → PredictionData → Prediction
predicted_at s m d = predicted_of s.header d (errors_read m s.width s.x s.y) (sums_read m s.width s.x s.y)

-- the same tests as an ask's
abbrev pub predicts : WeightedState → List ℕ → PredictionData → Outcome Prediction
predicts s m d = allowed s (not s.asked) (length m) (gives (predicted_at s m d))

abbrev pub asks : WeightedState → List ℕ → PredictionData → Outcome Answered
asks s m d = allowed s (not s.asked) (length m) (gives (answered s (predicted_at s m d)))

-- an ask tells the guess and the property
abbrev pub told : Answered → Answer
told a = record { guess = a.guess; property = a.property }

abbrev pub tells : Outcome Answered → Outcome Answer
tells (gives a) = gives (told a)
tells (refuses number details) = refuses number details

-- a refusal leaves the old state
abbrev pub after_ask : WeightedState → Outcome Answered → WeightedState
after_ask s (gives a) = a.state
after_ask s (refuses number details) = s

-- ---- put

-- the next pixel in raster order
abbrev pub onward : WeightedState → WeightedState
onward s =
    record {
      header = s.header;
      width = s.width;
      x = if (eqb (s.x + 1) s.width) 0 (s.x + 1);
      y = if (eqb (s.x + 1) s.width) (s.y + 1) s.y;
      asked = false;
      found = s.found;
    }

-- outside of the picture there is none
abbrev pub moved : WeightedState → WeightedState
moved s = if (is_place s) (onward s) s

abbrev pub puts : WeightedState → List ℕ → Outcome WeightedState
puts s m = allowed s (s.asked && possible s.found) (length m) (gives (onward s))

abbrev pub after_put : WeightedState → List ℕ → ℤ → Outcome WeightedState → List ℕ
after_put s m v (gives next) = updated m s.width s.x s.y (errors_of s.found v)
after_put s m v (refuses number details) = m

-- that it is done is all that a put tells
abbrev pub done : {A : Type 0} → Outcome A → Outcome Unit
done (gives a) = gives tt
done (refuses number details) = refuses number details

abbrev pub next_state : WeightedState → Outcome WeightedState → WeightedState
next_state s (gives next) = next
next_state s (refuses number details) = s

-- ---- determinacy

pub opens_determined : (h : WeightedHeader) (width : ℕ) (m : List ℕ) {r s : Result WeightedState Refusal} {m' m'' : List ℕ}
    → said r ≡ opens h width m → m' ≡ cleared m (opens h width m) → said s ≡ opens h width m → m'' ≡ cleared m (opens h width m)
    → (r ≡ s) × (m' ≡ m'')
opens_determined h width m {r} {s} p p' q q' = (one_result r s p q, one_value p' q')

pub asks_determined : (s : WeightedState) (m : List ℕ) (d : PredictionData) {r t : Result Answer Refusal} {a b : WeightedState}
    → said r ≡ tells (asks s m d) → a ≡ after_ask s (asks s m d) → said t ≡ tells (asks s m d) → b ≡ after_ask s (asks s m d)
    → (r ≡ t) × (a ≡ b)
asks_determined s m d {r} {t} p p' q q' = (one_result r t p q, one_value p' q')

pub puts_determined : (s : WeightedState) (m : List ℕ) (v : ℤ) {r t : Result Unit Refusal} {a b : WeightedState} {m' m'' : List ℕ}
    → said r ≡ done (puts s m) → a ≡ next_state s (puts s m) → m' ≡ after_put s m v (puts s m)
    → said t ≡ done (puts s m) → b ≡ next_state s (puts s m) → m'' ≡ after_put s m v (puts s m)
    → (r ≡ t) × (a ≡ b) × (m' ≡ m'')
puts_determined s m v {r} {t} p p' p'' q q' q'' = (one_result r t p q, one_value p' q', one_value p'' q'')
