-- What the memory holds of the errors so far, and that opening, a put and the end of a row keep it so. The two halves are any two
-- places p (the row above) and c (this row) that lie apart.
use borrow.Author.Tests.{lt-ltb, ltb-true, eqb-true, eqb-false, eq-eqb, ne_eqb}
use lib.Dec.{ltb, eqb}
use lib.ListN.{length, get_or, length-append, get_or-append}
use lib.Seq.{get_or_at}
use mathlib.Core.Bool.{Bool, true, false}
use mathlib.Core.List.{List, [], ◌∷◌, ◌++◌}
use mathlib.Core.Logic.{◌≢◌}
use mathlib.Core.Path.{◌≡◌, refl, sym, ap, ◌∙◌}
use native.Mathlib.Decide.{dec_lt}
use native.Mathlib.Omega.{arith}
use Prim.Native.Nat.{ℕ, zero, suc, ◌+◌, ◌-◌, ◌*◌, ◌%◌, ◌^◌, ◌≤◌, ◌<◌}
use Rattle.blend.specs.declared.PixelErrors.{PixelErrors}
use Rattle.integer.proofs.Fill.{filled_length, tabulate_length, tabulated}
use Rattle.integer.specs.Fill.{tabulate, filled}
use Rattle.integer.specs.Order.{if}
use Rattle.weighted.specs.Memory.{needed, previous, current, word, stored, added}
use Rattle.history.specs.Standard.{none, before, above}
use Rattle.history.proofs.Cells.{Lane, place, held, share, none_adds, cell, place_small, stored_length, stored_here, stored_there, added_length, added_here, added_there}

pub record Halves (width p c : ℕ) : Type 0 where
  pub apart : (i j : ℕ) → i ≤ width → j ≤ width → p + i ≢ c + j
  pub p_early : p ≤ width + 2
  pub c_early : c ≤ width + 2

-- Before pixel x of row y: the row above, where the positions 1 to x have the shares of this row's pixels, and this row's pixels.
pub record Layout (width : ℕ) (past : List PixelErrors) (m : List ℕ) (p c x y : ℕ) : Type 0 where
  pub counted : length past ≡ y * width + x
  pub roomy : needed width ≤ length m
  pub bare : (j : ℕ) → j < width → (0 < j → x < j) → (l : Lane) → cell m (p + j) l ≡ held l (above width past x y j) % 2 ^ 32
  pub joined : (j : ℕ) → 0 < j → j < width → j ≤ x → (l : Lane)
      → cell m (p + j) l ≡ (held l (above width past x y j) + share l (before width past x y (j - 1) y).sub) % 2 ^ 32
  pub here : (j : ℕ) → j < x → (l : Lane) → cell m (c + j) l ≡ held l (before width past x y j y) % 2 ^ 32

-- ---- at opening

module _ (width : ℕ) (memory : List ℕ) (roomy : needed width ≤ length memory) (p c : ℕ) (halves : Halves width p c) where
  abbrev zeros : List ℕ
  zeros = filled (λ k. 0) (needed width) memory

  zero_at : (n : ℕ) → n < needed width → get_or zeros n 0 ≡ 0
  zero_at n h =
      get_or-append (tabulate (λ k. 0) (needed width)) _ 0 n (omega (arith, tabulate_length {A = ℕ} (λ k. 0) (needed width)))
      ∙ tabulated (λ k. 0) (needed width) n 0 h

  pub at_start_lem : Layout width [] zeros p c 0 0
  at_start_lem =
      record {
        counted = omega arith;
        roomy = omega (arith, filled_length {A = ℕ} (λ k. 0) (needed width) memory roomy);
        bare = λ j inside ahead l.
            ap (λ (n : ℕ). n % 2 ^ 32) (zero_at (5 * (p + j) + place l) (omega (arith, place_small l, halves.p_early)) ∙ sym (none_adds l));
        joined = λ j begun inside done. absurd (omega arith);
        here = λ j done. absurd (omega arith);
      }

-- ---- a put

row_before : (width x y j : ℕ) → 0 < y → j < width → (y - 1) * width + j < y * width + x
row_before width x zero j h k = absurd (omega arith)
row_before width x (suc r) j h k = let up : suc r - 1 ≡ r = omega arith in rw up (omega arith)

module _ (width : ℕ) (past : List PixelErrors) (m : List ℕ) (p c x y : ℕ) (halves : Halves width p c)
    (L : Layout width past m p c x y) (inside : x < width) (e : PixelErrors) where
  abbrev longer : List PixelErrors
  longer = past ++ (e ∷ [])

  abbrev middle : List ℕ
  middle = stored m (c + x) e

  abbrev after : List ℕ
  after = added middle (p + x + 1) e.sub

  grown : (n : ℕ) → n < y * width + x → get_or longer n none ≡ get_or past n none
  grown n h = get_or-append past (e ∷ []) none n (omega (arith, L.counted))

  newest : get_or longer (y * width + x) none ≡ e
  newest = get_or_at past e [] none (y * width + x) L.counted

  above_grown : (j : ℕ) → j < width → above width longer (x + 1) y j ≡ above width past x y j
  above_grown j h = by (ltb 0 y) refl
    where
      by : (t : Bool) → ltb 0 y ≡ t → if t (before width longer (x + 1) y j (y - 1)) none ≡ if t (before width past x y j (y - 1)) none
      by true t = grown ((y - 1) * width + j) (row_before width x y j (ltb-true 0 y t) h)
      by false t = refl

  middle_room : needed width ≤ length middle
  middle_room = omega (arith, stored_length m (c + x) e, L.roomy)

  above_kept : (j : ℕ) → j < width → j ≢ x + 1 → (l : Lane) → word after (p + j) (place l) ≡ word m (p + j) (place l)
  above_kept j h differs l =
      added_there middle (p + x + 1) e.sub (p + j) (λ q. differs (omega arith)) l
      ∙ stored_there m (c + x) e (p + j) (halves.apart j x (omega arith) (omega arith)) l

  here_kept : (j : ℕ) → j ≤ x → (l : Lane) → word after (c + j) (place l) ≡ word middle (c + j) (place l)
  here_kept j h = added_there middle (p + x + 1) e.sub (c + j) (λ q. halves.apart (x + 1) j (omega arith) (omega arith) (omega arith))

  -- the next position takes the share
  shared : x + 1 < width → (l : Lane) → cell after (p + (x + 1)) l ≡ (held l (above width past x y (x + 1)) + share l e.sub) % 2 ^ 32
  shared h l =
      let at : p + (x + 1) ≡ p + x + 1 = omega arith in
      let was = L.bare (x + 1) h (λ b. omega arith) l in
      let same = stored_there m (c + x) e (p + (x + 1)) (halves.apart (x + 1) x (omega arith) (omega arith)) l in
      let now = added_here middle (p + x + 1) e.sub (omega (arith, middle_room, halves.p_early)) l in
      omega (arith, ap (λ (n : ℕ). cell after n l) at, ap (λ (n : ℕ). word middle n (place l)) at)

  pub put_keeps : Layout width longer after p c (x + 1) y
  put_keeps =
      record {
        counted = length-append past (e ∷ []) ∙ omega (arith, L.counted);
        roomy = omega (arith, added_length middle (p + x + 1) e.sub, middle_room);
        bare = λ j h ahead l.
            ap (λ (n : ℕ). n % 2 ^ 32) (above_kept j h (λ q. omega (arith, ahead (omega arith))) l)
            ∙ L.bare j h (λ b. omega (arith, ahead b)) l
            ∙ ap (λ (a : PixelErrors). held l a % 2 ^ 32) (sym (above_grown j h));
        joined = λ j begun h done l. join j begun h done l (dec_lt j (x + 1));
        here = λ j done l. ap (λ (n : ℕ). n % 2 ^ 32) (here_kept j (omega arith) l) ∙ stand j done l (dec_lt j x);
      }
    where
      join : (j : ℕ) → 0 < j → j < width → j ≤ x + 1 → (l : Lane) → Dec (j < x + 1)
          → cell after (p + j) l ≡ (held l (above width longer (x + 1) y j) + share l (before width longer (x + 1) y (j - 1) y).sub) % 2 ^ 32
      join j begun h done l (yes old) =
          rw (above_grown j h, grown (y * width + (j - 1)) (omega arith), above_kept j h (omega arith) l)
          (L.joined j begun h (omega arith) l)
      join j begun h done l (no new) =
          let at : j ≡ x + 1 = omega arith in
          let last : j - 1 ≡ x = omega arith in
          rw (above_grown j h, last, newest, at) (shared (omega arith) l)

      stand : (j : ℕ) → j < x + 1 → (l : Lane) → Dec (j < x) → cell middle (c + j) l ≡ held l (before width longer (x + 1) y j y) % 2 ^ 32
      stand j done l (yes old) =
          rw (grown (y * width + j) (omega arith), stored_there m (c + x) e (c + j) (omega arith) l) (L.here j old l)
      stand j done l (no new) =
          let at : j ≡ x = omega arith in
          rw (at, newest) (ap (λ (n : ℕ). n % 2 ^ 32) (stored_here m (c + x) e (omega (arith, L.roomy, halves.c_early)) l))

-- ---- the end of a row: the halves change places

module _ (width : ℕ) (past : List PixelErrors) (m : List ℕ) (p c y : ℕ) (L : Layout width past m p c width y) where
  pub row_turns : Layout width past m c p 0 (y + 1)
  row_turns =
      record {
        counted = omega (arith, L.counted);
        roomy = L.roomy;
        bare = λ j h ahead l. L.here j h l ∙ ap (λ (a : PixelErrors). held l a % 2 ^ 32) (sym (one_up j));
        joined = λ j begun inside done. absurd (omega arith);
        here = λ j done. absurd (omega arith);
      }
    where
      one_up : (j : ℕ) → above width past 0 (y + 1) j ≡ before width past 0 y j y
      one_up j =
          let up : y + 1 - 1 ≡ y = omega arith in
          rw (lt-ltb 0 (y + 1) (omega arith), up)

-- ---- the memory's own halves: they lie apart, and each row's are the last row's turned round

pub halves : (width y : ℕ) → Halves width (previous width y) (current width y)
halves width y = by (eqb (y % 2) 0)
  where
    by : (t : Bool) → Halves width (if t 0 (width + 2)) (if t (width + 2) 0)
    by true = record { apart = λ i j h k. omega arith; p_early = omega arith; c_early = omega arith }
    by false = record { apart = λ i j h k. omega arith; p_early = omega arith; c_early = omega arith }

turns : (a b y : ℕ) → if (eqb ((y + 1) % 2) 0) a b ≡ if (eqb (y % 2) 0) b a
turns a b y = by (eqb (y % 2) 0) refl
  where
    by : (t : Bool) → eqb (y % 2) 0 ≡ t → if (eqb ((y + 1) % 2) 0) a b ≡ if t b a
    by true e = rw (ne_eqb ((y + 1) % 2) 0 (λ z. omega (arith, eqb-true (y % 2) 0 e)))
    by false e = rw (eq-eqb ((y + 1) % 2) 0 (omega (arith, eqb-false (y % 2) 0 e)))

-- after a put: the next pixel in raster order
module _ (width : ℕ) (past : List PixelErrors) (m : List ℕ) (x y : ℕ) where
  pub goes_on : (t : Bool) → eqb (x + 1) width ≡ t → Layout width past m (previous width y) (current width y) (x + 1) y
      → Layout width past m (previous width (if t (y + 1) y)) (current width (if t (y + 1) y)) (if t 0 (x + 1)) (if t (y + 1) y)
  goes_on true e L =
      let ends : x + 1 ≡ width = eqb-true (x + 1) width e in
      rw (turns 0 (width + 2) y, turns (width + 2) 0 y)
      (row_turns width past m (previous width y) (current width y) y (rw ends at L))
  goes_on false e L = L
