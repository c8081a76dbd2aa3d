-- Going round, and what put and take do to the list that a ring holds.
use borrow.Author.Tests.{ltb-true, ltb-false}
use lib.Dec.{ltb}
use lib.IntN.{ℤ, pos}
use lib.ListN.{length, set, get_or, length-set, length-append}
use lib.Seq.{get_or-set_same, get_or-set_other}
use mathlib.Core.Bool.{Bool, true, false}
use mathlib.Core.List.{List, [], ◌∷◌, ◌++◌, append_assoc, append-nil}
use mathlib.Core.Logic.{◌⊎◌, inl, inr, ⊎_elim}
use mathlib.Core.Path.{◌≡◌, refl, sym, ap, ap₂, ◌∙◌}
use native.Mathlib.Numerals.{add-one}
use native.Mathlib.Omega.{arith}
use Prim.Native.Nat.{ℕ, ◌+◌, ◌-◌, ◌≤◌, ◌<◌}
use Rattle.integer.proofs.Fill.{tabulate_length, tabulate_agree, tabulate_join}
use Rattle.integer.specs.Fill.{tabulate}
use Rattle.integer.specs.Order.{if}
use Rattle.integer.specs.Word.{bits_of}
use Rattle.flatten.specs.Ring.{Ends, goes_round, queued_at, held, Ready, Puts, Takes}

-- ---- going round: as it is, or one round back

abbrev pub Rounded : ℕ → ℕ → ℕ → Type 0
Rounded m i r = ((i < m) × (r ≡ i)) ⊎ ((m ≤ i) × (r + m ≡ i))

by_test : (m i : ℕ) (t : Bool) → ltb i m ≡ t → Rounded m i (if t i (i - m))
by_test m i true e = inl (ltb-true i m e, refl)
by_test m i false e = let h = ltb-false i m e in inr (h, omega arith)

pub rounded : (m i : ℕ) → Rounded m i (goes_round m i)
rounded m i = by_test m i (ltb i m) refl

pub round_below : (m i : ℕ) → i < m + m → goes_round m i < m
round_below m i h = ⊎_elim (λ l. omega (arith, l)) (λ r. omega (arith, r)) (rounded m i)

-- two that are less than a round apart are two
apart : (m i j : ℕ) → i < j → j < i + m → goes_round m i ≡ goes_round m j → ⊥
apart m i j h k e =
    ⊎_elim
    (λ a. ⊎_elim (λ b. omega (arith, a, b, e)) (λ b. omega (arith, a, b, e)) (rounded m j))
    (λ a. ⊎_elim (λ b. omega (arith, a, b, e)) (λ b. omega (arith, a, b, e)) (rounded m j))
    (rounded m i)

-- one on, and then i on
round_on : (m f i : ℕ) → f < m → i < m → goes_round m (goes_round m (f + 1) + i) ≡ goes_round m (f + (1 + i))
round_on m f i h k =
    ⊎_elim
    (λ a. let same : goes_round m (f + 1) + i ≡ f + (1 + i) = omega (arith, a) in ap (goes_round m) same)
    (λ a.
    ⊎_elim
    (λ b. omega (arith, a, b, rounded_past (omega (arith, a))))
    (λ b. omega (arith, a, b))
    (rounded m (goes_round m (f + 1) + i)))
    (rounded m (f + 1))
  where
    rounded_past : (m ≤ f + (1 + i)) → goes_round m (f + (1 + i)) + m ≡ f + (1 + i)
    rounded_past past = ⊎_elim (λ b. omega (arith, b)) (λ b. b.1) (rounded m (f + (1 + i)))

-- none on, and a whole round on
pub round_again : (m f : ℕ) → f < m → (goes_round m (f + 0) ≡ f) × (goes_round m (f + m) ≡ f)
round_again m f h = (
  ⊎_elim (λ a. omega (arith, a)) (λ a. omega (arith, a)) (rounded m (f + 0)),
  ⊎_elim (λ a. omega (arith, a)) (λ a. omega (arith, a)) (rounded m (f + m)),
)

-- ---- what is held

pub held_length : (ring : Ends) (words : List ℤ) → length (held ring words) ≡ ring.queued
unfolding held
held_length ring words = tabulate_length (queued_at ring words) ring.queued

module _ (ring : Ends) (words : List ℤ) (place : ℕ) (ready : Ready ring words) (room : ring.queued < length words) (small : place < 2147483648) where
  abbrev end : ℕ
  end = goes_round (length words) (ring.first + ring.queued)

  pub end_inside : end < length words
  end_inside = round_below (length words) (ring.first + ring.queued) (omega (arith, ready.starts))

  abbrev put_words : List ℤ
  put_words = set words end (pos place)

  abbrev put_ring : Ends
  put_ring = record { first = ring.first; queued = ring.queued + 1 }

  same_length : length put_words ≡ length words
  same_length = length-set words end (pos place)

  others : (i : ℕ) → i < ring.queued → queued_at put_ring put_words i ≡ queued_at ring words i
  others i h =
      rw same_length
      (ap bits_of (get_or-set_other words end (goes_round (length words) (ring.first + i)) (pos place) (pos 0)
      (λ e. apart (length words) (ring.first + i) (ring.first + ring.queued) (omega arith) (omega arith) e)))

  last : queued_at put_ring put_words ring.queued ≡ place
  last =
      rw (same_length, get_or-set_same words end (pos place) (pos 0) end_inside)
      (omega arith)

  pub puts : Puts ring words (place ∷ []) put_ring put_words
  unfolding held tabulate
  puts = record {
    ready = record { starts = rw same_length ready.starts; fits = rw same_length (omega arith) };
    as_long = same_length;
    more = refl;
    appends =
        rw (add-one ring.queued)
        (ap₂ (λ (l : List ℕ) (x : ℕ). l ++ (x ∷ []))
        (tabulate_agree (queued_at put_ring put_words) (queued_at ring words) ring.queued others)
        last);
  }

-- nothing put, and more put after some
pub puts_none : (ring : Ends) (words : List ℤ) → Ready ring words → Puts ring words [] ring words
puts_none ring words ready = record { ready = ready; as_long = refl; more = omega arith; appends = sym (append-nil (held ring words)) }

pub puts_on : {a b c : Ends} {u v w : List ℤ} {xs ys : List ℕ} → Puts a u xs b v → Puts b v ys c w → Puts a u (xs ++ ys) c w
puts_on {a} {u = u} {xs = xs} {ys = ys} p q = record {
  ready = q.ready;
  as_long = q.as_long ∙ p.as_long;
  more = omega (arith, p.more, q.more, length-append xs ys);
  appends = q.appends ∙ ap (λ (l : List ℕ). l ++ ys) p.appends ∙ append_assoc (held a u) xs ys;
}

module _ (ring : Ends) (words : List ℤ) (ready : Ready ring words) (some : 0 < ring.queued) where
  abbrev left : Ends
  left = record { first = goes_round (length words) (ring.first + 1); queued = ring.queued - 1 }

  rest : tabulate (λ i. queued_at ring words (1 + i)) (ring.queued - 1) ≡ held left words
  unfolding held
  rest =
      tabulate_agree (λ i. queued_at ring words (1 + i)) (queued_at left words) (ring.queued - 1)
      (λ i h. ap (λ (k : ℕ). bits_of (get_or words k (pos 0))) (sym (round_on (length words) ring.first i ready.starts (omega (arith, ready.fits)))))

  pub takes : Takes ring words (bits_of (get_or words ring.first (pos 0))) left
  unfolding held tabulate
  takes = record {
    ready = record { starts = round_below (length words) (ring.first + 1) (omega (arith, ready.starts)); fits = omega (arith, ready.fits) };
    one_less = omega arith;
    removes =
        let is : ring.queued ≡ 1 + (ring.queued - 1) = omega arith in
        ap (tabulate (queued_at ring words)) is
        ∙ sym (tabulate_join (queued_at ring words) 1 (ring.queued - 1))
        ∙ ap₂ (λ (x : ℕ) (l : List ℕ). x ∷ l) (ap (λ (k : ℕ). bits_of (get_or words k (pos 0))) (round_again (length words) ring.first ready.starts).0) rest;
  }
