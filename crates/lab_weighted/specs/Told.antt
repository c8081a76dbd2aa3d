-- What the C functions of the weighted state answer and write, from the library's own definitions: 0 and the words, or a
-- refusal's number and nothing. A state is told as three lists: its header, its place, what an ask found.
use Rattle.std.specs.Prelude.{Bool, ◌&&◌, not, List, ◌∷◌, ◌≡◌, ℕ, leb, eqb, ℤ, pos, length, get_or, drop}
use Rattle.blend.specs.Blend.{defaults}
use Rattle.blend.specs.declared.Found.{Found}
use Rattle.blend.specs.declared.WeightedHeader.{WeightedHeader}
use Rattle.integer.specs.Order.{if}
use Rattle.told.specs.Told.{data_of}
use Rattle.refusal.specs.Paper.{Outcome, gives, refuses, one_value}
use Rattle.weighted.specs.Saved.{saved_words, saved_word, restored_word, copies, after_copy}
use Rattle.weighted.specs.State.{Answered, test, nothing, opens, cleared, asks, puts, after_put}
use Rattle.weighted.specs.declared.state.WeightedState.{WeightedState}

-- ---- lists read

-- eleven values, or the defaults
unfoldable pub header_of : List ℕ → WeightedHeader
header_of words =
    if (leb 11 (length words))
    (record {
      p1c = get_or words 0 0;
      p2c = get_or words 1 0;
      p3ca = get_or words 2 0;
      p3cb = get_or words 3 0;
      p3cc = get_or words 4 0;
      p3cd = get_or words 5 0;
      p3ce = get_or words 6 0;
      w0 = get_or words 7 0;
      w1 = get_or words 8 0;
      w2 = get_or words 9 0;
      w3 = get_or words 10 0;
    })
    defaults

-- five values, or none
unfoldable pub found_of : List ℤ → Found
found_of words =
    if (leb 5 (length words))
    (record {
      p0 = get_or words 0 (pos 0);
      p1 = get_or words 1 (pos 0);
      p2 = get_or words 2 (pos 0);
      p3 = get_or words 3 (pos 0);
      pred = get_or words 4 (pos 0);
    })
    nothing

unfoldable pub state_of : List ℕ → List ℕ → List ℤ → WeightedState
state_of header place found = record {
  header = header_of header;
  width = get_or place 0 0;
  x = get_or place 1 0;
  y = get_or place 2 0;
  asked = not (eqb (get_or place 3 0) 0);
  found = found_of found;
}

-- lists of these lengths tell a state
abbrev pub tell : ℕ → ℕ → ℕ → Bool
tell header place found = leb 11 header && leb 4 place && leb 5 found

-- a list that is too short is 8, before all else
abbrev pub told : {A : Type 0} → List ℕ → List ℕ → List ℤ → Outcome A → Outcome A
told header place found next = test (tell (length header) (length place) (length found)) 8 0 next

-- ---- lists written, where there is room

abbrev pub placed : WeightedState → List ℕ → List ℕ
placed s words = if (leb 4 (length words)) (s.width ∷ s.x ∷ s.y ∷ if s.asked 1 0 ∷ drop 4 words) words

abbrev pub found_put : Found → List ℤ → List ℤ
found_put f words = if (leb 5 (length words)) (f.p0 ∷ f.p1 ∷ f.p2 ∷ f.p3 ∷ f.pred ∷ drop 5 words) words

abbrev pub answer_put : Answered → List ℤ → List ℤ
answer_put a words = a.guess ∷ a.property ∷ drop 2 words

abbrev pub done_or : {A : Type 0} → Outcome A → ℕ
done_or (gives a) = 0
done_or (refuses number details) = number

-- a refusal writes nothing
abbrev pub after : {A W : Type 0} → (A → List W → List W) → Outcome A → List W → List W
after writes (gives a) words = writes a words
after writes (refuses number details) words = words

-- ---- opening

abbrev pub opened : List ℕ → ℕ → List ℕ → Outcome WeightedState
opened header width m = test (leb 11 (length header)) 8 0 (opens (header_of header) width m)

pub record OpenTold (header : List ℕ) (width : ℕ) (m : List ℕ) (r : ℕ) (m' : List ℕ) : Type 0 where
  pub answers : r ≡ done_or (opened header width m)
  pub holds : m' ≡ cleared m (opened header width m)

-- ---- ask

abbrev pub asked : List ℕ → List ℕ → List ℤ → List ℕ → List ℤ → List ℤ → Outcome Answered
asked header place found m d answer =
    told header place found
    (test (leb 7 (length d)) 8 0
    (test (leb 2 (length answer)) 8 0
    (asks (state_of header place found) m (data_of d))))

abbrev pub place_asked : List ℕ → Outcome Answered → List ℕ
place_asked place o = after (λ a. placed a.state) o place

abbrev pub found_asked : List ℤ → Outcome Answered → List ℤ
found_asked found o = after (λ a. found_put a.state.found) o found

pub record AskTold (header place : List ℕ) (found : List ℤ) (m : List ℕ) (d answer : List ℤ) (r : ℕ) (place' : List ℕ) (found' answer' : List ℤ) : Type 0 where
  pub answers : r ≡ done_or (asked header place found m d answer)
  pub holds_place : place' ≡ place_asked place (asked header place found m d answer)
  pub holds_found : found' ≡ found_asked found (asked header place found m d answer)
  pub holds_answer : answer' ≡ after answer_put (asked header place found m d answer) answer

-- ---- put

abbrev pub put : List ℕ → List ℕ → List ℤ → List ℕ → Outcome WeightedState
put header place found m = told header place found (puts (state_of header place found) m)

pub record PutTold (header place : List ℕ) (found : List ℤ) (m : List ℕ) (v : ℤ) (r : ℕ) (place' m' : List ℕ) : Type 0 where
  pub answers : r ≡ done_or (put header place found m)
  pub holds_place : place' ≡ after placed (put header place found m) place
  pub holds_memory : m' ≡ after_put (state_of header place found) m v (put header place found m)

-- ---- saving

abbrev pub copied : List ℕ → List ℕ → List ℤ → List ℕ → List ℕ → Outcome Unit
copied header place found m saved = told header place found (copies (state_of header place found) (length m) (length saved))

abbrev pub saved_to : WeightedState → List ℕ → List ℕ → Outcome Unit → List ℕ
saved_to s m saved o = after_copy (saved_word m s.width) (saved_words s.width) saved o

abbrev pub restored_to : WeightedState → List ℕ → List ℕ → Outcome Unit → List ℕ
restored_to s m saved o = after_copy (restored_word saved s.width) (saved_words s.width) m o

pub record SaveTold (header place : List ℕ) (found : List ℤ) (m saved : List ℕ) (r : ℕ) (saved' : List ℕ) : Type 0 where
  pub answers : r ≡ done_or (copied header place found m saved)
  pub holds : saved' ≡ saved_to (state_of header place found) m saved (copied header place found m saved)

pub record RestoreTold (header place : List ℕ) (found : List ℤ) (m saved : List ℕ) (r : ℕ) (m' : List ℕ) : Type 0 where
  pub answers : r ≡ done_or (copied header place found m saved)
  pub holds : m' ≡ restored_to (state_of header place found) m saved (copied header place found m saved)

-- ---- determinacy

pub open_determined : (header : List ℕ) (width : ℕ) (m : List ℕ) {r s : ℕ} {x y : List ℕ}
    → OpenTold header width m r x → OpenTold header width m s y → (r ≡ s) × (x ≡ y)
open_determined header width m p q = (one_value p.answers q.answers, one_value p.holds q.holds)

module _ (header place : List ℕ) (found : List ℤ) (m : List ℕ) where
  pub ask_determined : (d answer : List ℤ) {r s : ℕ} {place' place'' : List ℕ} {found' found'' answer' answer'' : List ℤ}
      → AskTold header place found m d answer r place' found' answer' → AskTold header place found m d answer s place'' found'' answer''
      → (r ≡ s) × (place' ≡ place'') × (found' ≡ found'') × (answer' ≡ answer'')
  ask_determined d answer p q = (
    one_value p.answers q.answers,
    one_value p.holds_place q.holds_place,
    one_value p.holds_found q.holds_found,
    one_value p.holds_answer q.holds_answer,
  )

  pub put_determined : (v : ℤ) {r s : ℕ} {place' place'' m' m'' : List ℕ}
      → PutTold header place found m v r place' m' → PutTold header place found m v s place'' m''
      → (r ≡ s) × (place' ≡ place'') × (m' ≡ m'')
  put_determined v p q = (
    one_value p.answers q.answers,
    one_value p.holds_place q.holds_place,
    one_value p.holds_memory q.holds_memory,
  )

  pub save_determined : (saved : List ℕ) {r s : ℕ} {x y : List ℕ}
      → SaveTold header place found m saved r x → SaveTold header place found m saved s y → (r ≡ s) × (x ≡ y)
  save_determined saved p q = (one_value p.answers q.answers, one_value p.holds q.holds)

  pub restore_determined : (saved : List ℕ) {r s : ℕ} {x y : List ℕ}
      → RestoreTold header place found m saved r x → RestoreTold header place found m saved s y → (r ≡ s) × (x ≡ y)
  restore_determined saved p q = (one_value p.answers q.answers, one_value p.holds q.holds)
