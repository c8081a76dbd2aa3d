-- Full is told from empty, though the two ends are the same word in both.
use lib.IntN.{ℤ}
use lib.ListN.{length}
use mathlib.Core.List.{List}
use mathlib.Core.Logic.{◌⊎◌, inl, inr, ⊎_elim}
use mathlib.Core.Path.{◌≡◌, ap}
use native.Mathlib.Omega.{arith}
use Prim.Native.Nat.{ℕ, ◌+◌, ◌<◌}
use Rattle.flatten.specs.Ring.{Ends, goes_round, held, Ready}
use Rattle.flatten.proofs.Rounds.{held_length, rounded, round_again}

-- where the next place is put
abbrev pub end_of : Ends → List ℤ → ℕ
end_of ring words = goes_round (length words) (ring.first + ring.queued)

-- Over the same words and from the same first word, a ring with nothing queued and one with every word queued have the same two ends; the
-- count tells them apart: the one holds nothing, the other as many places as there are words.
pub full_is_not_empty : (words : List ℤ) (first : ℕ) → first < length words
    → let none : Ends = record { first = first; queued = 0 } in
    let all : Ends = record { first = first; queued = length words } in
    (end_of none words ≡ first) × (end_of all words ≡ first) × (length (held none words) ≡ 0) × (length (held all words) ≡ length words) × (held none words ≡ held all words → ⊥)
full_is_not_empty words first h =
    let none : Ends = record { first = first; queued = 0 } in
    let all : Ends = record { first = first; queued = length words } in
    let ends = round_again (length words) first h in (
      ends.0,
      ends.1,
      held_length none words,
      held_length all words,
      λ same. omega (arith, held_length none words, held_length all words, ap length same),
    )

-- Where the two ends of a ring are the same word, none is queued or every word is: the count tells which.
pub ends_meet : (ring : Ends) (words : List ℤ) → Ready ring words → end_of ring words ≡ ring.first → (ring.queued ≡ 0) ⊎ (ring.queued ≡ length words)
ends_meet ring words ready meet =
    ⊎_elim
    (λ near. inl (omega (arith, near, meet)))
    (λ far. inr (omega (arith, far, meet)))
    (rounded (length words) (ring.first + ring.queued))
