-- Guesses that are right one by one are right as a list.
use lib.IntN.{ℤ, pos}
use lib.ListN.{length, get_or}
use mathlib.Core.List.{List}
use mathlib.Core.Path.{◌≡◌, refl, sym, ◌∙◌}
use Prim.Native.Nat.{ℕ, ◌<◌}
use Rattle.integer.proofs.Fill.{filled_all, tabulate_agree, tabulate_self}
use Rattle.integer.specs.Fill.{filled}

pub guessed : (at : ℕ → ℤ) (guesses guesses' : List ℤ) → length guesses' ≡ length guesses → ((k : ℕ) → k < length guesses' → get_or guesses' k (pos 0) ≡ at k)
    → guesses' ≡ filled at (length guesses) guesses
guessed at guesses guesses' long each =
    sym (tabulate_self guesses' (pos 0)) ∙ tabulate_agree (λ k. get_or guesses' k (pos 0)) at (length guesses') each ∙ rw long (sym (filled_all at (length guesses) guesses refl))
