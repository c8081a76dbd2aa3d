-- Module 4 of document 01, saving: the first half of the memory, its error row and then four sum rows.
use Rattle.std.specs.Prelude.{Bool, ◌&&◌, not, List, ◌≡◌, ℕ, ◌+◌, ◌*◌, ◌/◌, ◌%◌, ◌^◌, ltb, leb, eqb, length, get_or, Result}
use Rattle.blend.specs.Blend.{in_range}
use Rattle.integer.specs.Fill.{filled}
use Rattle.refusal.specs.Paper.{Outcome, gives, refuses, said, one_result, one_value}
use Rattle.refusal.specs.declared.Refusal.{Refusal}
use Rattle.weighted.specs.Memory.{positions, needed}
use Rattle.weighted.specs.State.{test, is_width}
use Rattle.weighted.specs.declared.state.WeightedState.{WeightedState}

-- an error row and four sum rows
abbrev pub saved_words : ℕ → ℕ
saved_words width = 5 * positions width

-- an ask that opens an even row is due
abbrev pub even_row_due : WeightedState → Bool
even_row_due s = not s.asked && eqb s.x 0 && eqb (s.y % 2) 0 && ltb s.y (2 ^ 30)

-- the memory is tested before the list
abbrev pub copies : WeightedState → ℕ → ℕ → Outcome Unit
copies s lent saved =
    test (in_range s.header) 12 0
    (test (is_width s.width && ltb s.x s.width) 11 0
    (test (even_row_due s) 13 0
    (test (leb (needed s.width) lent) 8 (needed s.width)
    (test (leb (saved_words s.width) saved) 8 (saved_words s.width) (gives tt)))))

-- word k of the saved list: row k / positions holds that word of each position
abbrev pub saved_word : List ℕ → ℕ → ℕ → ℕ
saved_word m width k = get_or m (5 * (k % positions width) + k / positions width) 0

-- word k of the memory: word k % 5 of position k / 5
abbrev pub restored_word : List ℕ → ℕ → ℕ → ℕ
restored_word saved width k = get_or saved ((k % 5) * positions width + k / 5) 0

-- a refusal writes nothing
abbrev pub after_copy : (ℕ → ℕ) → ℕ → List ℕ → Outcome Unit → List ℕ
after_copy rule n words (gives done) = filled rule n words
after_copy rule n words (refuses number details) = words

module _ (s : WeightedState) (m saved : List ℕ) where
  -- every word of the list, where the first half of the memory is saved
  abbrev pub list_after : List ℕ
  list_after = after_copy (saved_word m s.width) (saved_words s.width) saved (copies s (length m) (length saved))

  -- every word of the memory, where the list is written back
  abbrev pub memory_after : List ℕ
  memory_after = after_copy (restored_word saved s.width) (saved_words s.width) m (copies s (length m) (length saved))

-- ---- determinacy

pub saves_determined : (s : WeightedState) (m saved : List ℕ) {r t : Result Unit Refusal} {a b : List ℕ}
    → said r ≡ copies s (length m) (length saved) → a ≡ list_after s m saved
    → said t ≡ copies s (length m) (length saved) → b ≡ list_after s m saved
    → (r ≡ t) × (a ≡ b)
saves_determined s m saved {r} {t} p p' q q' = (one_result r t p q, one_value p' q')

pub restores_state_determined : (s : WeightedState) (m saved : List ℕ) {r t : Result Unit Refusal} {a b : List ℕ}
    → said r ≡ copies s (length m) (length saved) → a ≡ memory_after s m saved
    → said t ≡ copies s (length m) (length saved) → b ≡ memory_after s m saved
    → (r ≡ t) × (a ≡ b)
restores_state_determined s m saved {r} {t} p p' q q' = (one_result r t p q, one_value p' q')
