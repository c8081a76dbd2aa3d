-- A table made from a rule, and a loop that writes lent words from the front: before it, one more turn, after it.
use mathlib.Core.List.{List, [], ◌∷◌, ◌++◌, append_assoc, append-nil}
use mathlib.Core.Path.{◌≡◌, refl, sym, ap, ap₂, ◌∙◌}
use Prim.Native.Nat.{ℕ, zero, suc, ◌+◌, ◌≤◌, ◌<◌}
use native.Mathlib.Decide.{dec_lt}
use native.Mathlib.Nat.{add-zero, add-suc}
use native.Mathlib.Numerals.{add-one}
use native.Mathlib.Omega.{arith}
use lib.ListN.{replicate, length, set, take, drop, get_or, length-append, length-drop, get_or-append, drop_of_length-le}
use lib.Seq.{drop-cons, set_at, get_or-append-add, get_or_at, get_or-drop, get_or-take, drop-drop, take_at, drop_at, ext_get_or}
use Rattle.std.proofs.lemmas.List.{replicate_more}
use Rattle.integer.specs.Fill.{tabulate, filled}

module _ {A : Type 0} (f : ℕ → A) where
  pub tabulate_length : (n : ℕ) → length (tabulate f n) ≡ n
  unfolding tabulate
  tabulate_length zero = refl
  tabulate_length (suc n) = length-append (tabulate f n) (f n ∷ []) ∙ omega (arith, tabulate_length n)

  pub filled_length : (n : ℕ) (d : List A) → n ≤ length d → length (filled f n d) ≡ length d
  filled_length n d h = length-append (tabulate f n) (drop n d) ∙ omega (arith, tabulate_length n, length-drop n d)

  -- before the loop
  pub filled_none : (d : List A) → filled f 0 d ≡ d
  unfolding tabulate
  filled_none d = refl

  -- one turn
  pub filled_more : (n : ℕ) (d : List A) → n < length d → set (filled f n d) n (f n) ≡ filled f (n + 1) d
  unfolding tabulate
  filled_more n d h =
      rw (add-one n, drop-cons d n (f n) h, set_at (tabulate f n) (get_or d n (f n)) (drop (suc n) d) (f n) n (tabulate_length n))
      (sym (append_assoc (tabulate f n) (f n ∷ []) (drop (suc n) d)))

  step : (n k : ℕ) (d : A) → (k < n → get_or (tabulate f n) k d ≡ f k) → k < suc n → Dec (k < n) → get_or (tabulate f n ++ (f n ∷ [])) k d ≡ f k
  step n k d before h (yes l) =
      let within : k < length (tabulate f n) = omega (arith, tabulate_length n) in
      get_or-append (tabulate f n) (f n ∷ []) d k within ∙ before l
  step n k d before h (no l) =
      let last : k ≡ n = omega arith in
      rw last (get_or_at (tabulate f n) (f n) [] d n (tabulate_length n))

  -- word k
  pub tabulated : (n k : ℕ) (d : A) → k < n → get_or (tabulate f n) k d ≡ f k
  unfolding tabulate
  tabulated zero k d h = absurd (omega arith)
  tabulated (suc n) k d h = step n k d (tabulated n k d) h (dec_lt k n)

  -- a word that the loop has not come to
  pub filled_ahead : (n : ℕ) (words : List A) (d : A) → get_or (filled f n words) n d ≡ get_or words n d
  filled_ahead n words d =
      let seam : length (tabulate f n) + 0 ≡ n = omega (arith, tabulate_length n) in
      ap (λ (k : ℕ). get_or (filled f n words) k d) (sym seam) ∙ get_or-append-add (tabulate f n) (drop n words) 0 d ∙ get_or-drop n words 0 d ∙ ap (λ (k : ℕ). get_or words k d) (add-zero n)

  -- after the last turn
  pub filled_all : (n : ℕ) (words : List A) → length words ≡ n → filled f n words ≡ tabulate f n
  filled_all n words e =
      let past : length words ≤ n = omega arith in
      rw (drop_of_length-le words past) (append-nil (tabulate f n))

-- a rule that gives one value fills with it
pub tabulate_constant : {A : Type 0} (a : A) (n : ℕ) → tabulate (λ k. a) n ≡ replicate n a
unfolding tabulate
tabulate_constant a zero = refl
tabulate_constant {A} a (suc n) =
    ap (λ (l : List A). l ++ (a ∷ [])) (tabulate_constant a n) ∙ replicate_more n a ∙ ap (λ (m : ℕ). replicate m a) (add-one n)

-- a list is its own cells
pub tabulate_self : {A : Type 0} (words : List A) (d : A) → tabulate (λ k. get_or words k d) (length words) ≡ words
tabulate_self {A} words d =
    let f : ℕ → A = λ k. get_or words k d in
    ext_get_or d (tabulate f (length words)) words (tabulate_length f (length words))
    (λ i h. tabulated f (length words) i d (omega (arith, tabulate_length f (length words))))

-- rules that agree below n make one table
pub tabulate_agree : {A : Type 0} (f g : ℕ → A) (n : ℕ) → ((k : ℕ) → k < n → f k ≡ g k) → tabulate f n ≡ tabulate g n
unfolding tabulate
tabulate_agree f g zero same = refl
tabulate_agree {A} f g (suc n) same =
    ap₂ (λ (l : List A) (x : A). l ++ (x ∷ [])) (tabulate_agree f g n (λ k h. same k (omega arith))) (same n (omega arith))

-- a table in two parts
pub tabulate_join : {A : Type 0} (f : ℕ → A) (s k : ℕ) → tabulate f s ++ tabulate (λ i. f (s + i)) k ≡ tabulate f (s + k)
unfolding tabulate
tabulate_join f s zero = rw add-zero (append-nil (tabulate f s))
tabulate_join {A} f s (suc k) =
    sym (append_assoc (tabulate f s) (tabulate (λ i. f (s + i)) k) (f (s + k) ∷ []))
    ∙ ap (λ (l : List A). l ++ (f (s + k) ∷ [])) (tabulate_join f s k)
    ∙ rw add-suc

-- a loop that fills a part of k words at a time: what it finds from word s on, and what k more make of the whole
module _ {A : Type 0} (f : ℕ → A) (s k : ℕ) (words : List A) where
  rest : drop s (filled f s words) ≡ drop s words
  rest = drop_at (tabulate f s) (drop s words) s (tabulate_length f s)

  pub part_cell : (i : ℕ) (d : A) → i < k → get_or (take k (drop s (filled f s words))) i d ≡ get_or words (s + i) d
  part_cell i d h = get_or-take k (drop s (filled f s words)) i d h ∙ ap (λ (l : List A). get_or l i d) rest ∙ get_or-drop s words i d

  pub filled_part : (new : List A) → new ≡ tabulate (λ i. f (s + i)) k
      → take s (filled f s words) ++ (new ++ drop k (drop s (filled f s words))) ≡ filled f (s + k) words
  filled_part new is =
      rw (is, rest, take_at (tabulate f s) (drop s words) s (tabulate_length f s), drop-drop k s words, ← (tabulate_join f s k))
      (sym (append_assoc (tabulate f s) (tabulate (λ i. f (s + i)) k) (drop (s + k) words)))
