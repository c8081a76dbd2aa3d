-- Lent words after a loop that writes them one by one from the front.
use Rattle.std.specs.Prelude.{List, [], ◌∷◌, ◌++◌, ℕ, zero, suc, drop}

-- f 0, f 1, .., f (n - 1)
unfoldable pub tabulate : {A : Type 0} → (ℕ → A) → ℕ → List A
tabulate f zero = []
tabulate f (suc n) = tabulate f n ++ (f n ∷ [])

-- the first n words are f 0 .. f (n - 1), the rest are as they were
abbrev pub filled : {A : Type 0} → (ℕ → A) → ℕ → List A → List A
filled f n words = tabulate f n ++ drop n words
