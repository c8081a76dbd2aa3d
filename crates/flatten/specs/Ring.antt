-- The ring: lent words that hold a queue of places, going round at their end. Its two ends are the same word both when none is queued and
-- when every word is, so the count of what is queued is kept, and not a second end.
use Rattle.std.specs.Prelude.{List, ◌∷◌, ◌++◌, ◌≡◌, ℕ, ◌+◌, ◌-◌, ◌≤◌, ◌<◌, ltb, ℤ, pos, length, get_or, Option, Some, None}
use Rattle.integer.specs.Fill.{tabulate}
use Rattle.integer.specs.Order.{if}
use Rattle.integer.specs.Word.{bits_of}
use Rattle.flatten.specs.declared.ring.Ring.{Ring}

-- where the first queued place stands, and how many are queued
pub record Ends : Type 0 where
  pub first : ℕ
  pub queued : ℕ

abbrev pub ends : Ring → Ends
ends ring = record { first = ring.first; queued = ring.queued }

-- word i of m words that go round
abbrev pub goes_round : ℕ → ℕ → ℕ
goes_round m i = if (ltb i m) i (i - m)

-- the i-th that is queued
abbrev pub queued_at : Ends → List ℤ → ℕ → ℕ
queued_at ring words i = bits_of (get_or words (goes_round (length words) (ring.first + i)) (pos 0))

-- the list of queued places
unfoldable pub held : Ends → List ℤ → List ℕ
held ring words = tabulate (queued_at ring words) ring.queued

pub record Ready (ring : Ends) (words : List ℤ) : Type 0 where
  pub starts : ring.first < length words
  pub fits : ring.queued ≤ length words

-- put appends
pub record Puts (ring : Ends) (words : List ℤ) (places : List ℕ) (ring' : Ends) (words' : List ℤ) : Type 0 where
  pub ready : Ready ring' words'
  pub as_long : length words' ≡ length words
  pub more : ring'.queued ≡ ring.queued + length places
  pub appends : held ring' words' ≡ held ring words ++ places

-- take gives the first
pub record Takes (ring : Ends) (words : List ℤ) (place : ℕ) (ring' : Ends) : Type 0 where
  pub ready : Ready ring' words
  pub one_less : ring'.queued + 1 ≡ ring.queued
  pub removes : held ring words ≡ place ∷ held ring' words

-- or none, where nothing is queued
abbrev pub TakesFirst : Ends → List ℤ → Option ℕ → Ends → Type 0
TakesFirst ring words (Some place) ring' = Takes ring words place ring'
TakesFirst ring words None ring' = (ring.queued ≡ 0) × (ring' ≡ ring)
