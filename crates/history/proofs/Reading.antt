-- From such a memory an ask reads the standard's true errors and error sums.
use borrow.Author.Tests.{ltb-true, ltb-false}
use lib.Dec.{ltb}
use lib.IntN.{pos}
use lib.ListN.{get_or}
use mathlib.Core.Bool.{Bool, true, false}
use mathlib.Core.List.{List}
use mathlib.Core.Path.{◌≡◌, refl, sym, ap, ◌∙◌}
use mir.Syntax.{w32}
use mir.Val.{to_z}
use native.Mathlib.Decide.{dec_lt}
use native.Mathlib.Nat.{add-mod, mod-eq_of_lt}
use native.Mathlib.Omega.{arith}
use Prim.Native.Nat.{ℕ, ◌+◌, ◌-◌, ◌*◌, ◌%◌, ◌^◌, ◌<◌}
use Rattle.blend.specs.declared.PixelErrors.{PixelErrors}
use Rattle.integer.proofs.Wrap.{bits_fit}
use Rattle.integer.specs.Order.{if}
use Rattle.weighted.specs.Memory.{current, previous, word, error_at, at_n, at_nw, at_ne, errors_read, sums_read}
use Rattle.history.specs.Standard.{none, before, above, err_n, err_w, err_nw, err_ne, err_ww, true_errors, err_sums}
use Rattle.history.proofs.Cells.{Lane, errors, sums0, sums1, sums2, sums3, place, held, share, none_adds, cell}
use Rattle.history.proofs.Invariant.{Layout}
use Rattle.history.proofs.Past.{IsWord, above_word}

read_back : (m : List ℕ) (q : ℕ) (e : PixelErrors) → IsWord e → cell m q errors ≡ held errors e % 2 ^ 32 → error_at m q ≡ e.error
unfolding error_at
read_back m q e is c = ap (to_z w32) (c ∙ mod-eq_of_lt (bits_fit e.error).fits) ∙ is.wrapped

alike : (a b c d : ℕ) → a % 2 ^ 32 ≡ b % 2 ^ 32 → c % 2 ^ 32 ≡ d % 2 ^ 32 → (a + c) % 2 ^ 32 ≡ (b + d) % 2 ^ 32
alike a b c d p q = add-mod a c (2 ^ 32) ∙ rw (p, q) (sym (add-mod b d (2 ^ 32)))

three_sums : (a b c n w nw ww ne v : ℕ) → a % 2 ^ 32 ≡ (n + w) % 2 ^ 32 → b % 2 ^ 32 ≡ (ne + v) % 2 ^ 32 → c % 2 ^ 32 ≡ (nw + ww) % 2 ^ 32
    → (a + b + c) % 2 ^ 32 ≡ (n + w + nw + ww + ne + v) % 2 ^ 32
three_sums a b c n w nw ww ne v p q r =
    let order : n + w + (ne + v) + (nw + ww) ≡ n + w + nw + ww + ne + v = omega arith in
    alike (a + b) (n + w + (ne + v)) c (nw + ww) (alike a (n + w) b (ne + v) p q) r ∙ ap (λ (k : ℕ). k % 2 ^ 32) order

back_one : (q x : ℕ) → 0 < x → q + x - 1 ≡ q + (x - 1)
back_one q x h = omega arith

on_one : (q x : ℕ) → q + x + 1 ≡ q + (x + 1)
on_one q x = omega arith

module _ (width : ℕ) (past : List PixelErrors) (m : List ℕ) (x y : ℕ) where
  -- the halves, the pixels above, the pixels of this row, and those that the sums are over
  abbrev p : ℕ
  p = previous width y

  abbrev c : ℕ
  c = current width y

  abbrev up : ℕ → PixelErrors
  up j = above width past x y j

  abbrev along : ℕ → PixelErrors
  along j = before width past x y j y

  abbrev N : PixelErrors
  N = err_n width past x y

  abbrev W : PixelErrors
  W = err_w width past x y

  abbrev NW : PixelErrors
  NW = err_nw width past x y

  abbrev NE : PixelErrors
  NE = err_ne width past x y

  abbrev WW : PixelErrors
  WW = err_ww width past x y

  module _ (words : (j : ℕ) → IsWord (get_or past j none)) (L : Layout width past m p c x y) (inside : x < width) where
    -- ---- the errors

    above_error : (j : ℕ) → j < width → error_at m (p + j) ≡ (up j).error
    above_error j h = read_back m (p + j) (up j) (above_word width past x y words j) (by (dec_lt 0 j) (dec_lt x j))
      where
        by : Dec (0 < j) → Dec (x < j) → cell m (p + j) errors ≡ held errors (up j) % 2 ^ 32
        by (yes begun) (yes ahead) = L.bare j h (λ b. ahead) errors
        by (yes begun) (no done) = omega (arith, L.joined j begun h (omega arith) errors)
        by (no first) ahead = L.bare j h (λ b. absurd (first b)) errors

    here_error : (j : ℕ) → j < x → error_at m (c + j) ≡ (along j).error
    here_error j h = read_back m (c + j) (along j) (words (y * width + j)) (L.here j h errors)

    error_w : if (ltb 0 x) (error_at m (c + x - 1)) (pos 0) ≡ W.error
    error_w = by (ltb 0 x) refl
      where
        by : (t : Bool) → ltb 0 x ≡ t → if t (error_at m (c + x - 1)) (pos 0) ≡ (if t (along (x - 1)) none).error
        by true t = let begun = ltb-true 0 x t in rw (back_one c x begun) (here_error (x - 1) (omega arith))
        by false t = refl

    error_nw : error_at m (at_nw m width x y) ≡ NW.error
    error_nw = by (ltb 0 x) refl
      where
        by : (t : Bool) → ltb 0 x ≡ t → error_at m (if t (p + x - 1) (p + x)) ≡ (if t (up (x - 1)) (up x)).error
        by true t = let begun = ltb-true 0 x t in rw (back_one p x begun) (above_error (x - 1) (omega arith))
        by false t = above_error x inside

    error_ne : error_at m (at_ne m width x y) ≡ NE.error
    error_ne = by (ltb (x + 1) width) refl
      where
        by : (t : Bool) → ltb (x + 1) width ≡ t → error_at m (if t (p + x + 1) (p + x)) ≡ (if t (up (x + 1)) (up x)).error
        by true t = rw (on_one p x) (above_error (x + 1) (ltb-true (x + 1) width t))
        by false t = above_error x inside

    pub errors_read_lem : errors_read m width x y ≡ true_errors width past x y
    unfolding errors_read true_errors
    errors_read_lem = cc (error_w, above_error x inside, error_nw, error_ne)

    -- ---- the sums

    -- a position with no share yet
    alone : (j : ℕ) → j < width → (0 < j → x < j) → (l : Lane) → cell m (p + j) l ≡ (held l (up j) + share l none.sub) % 2 ^ 32
    alone j h ahead l = omega (arith, none_adds l, L.bare j h ahead l)

    sum_n : (l : Lane) → cell m (p + x) l ≡ (held l N + share l W.sub) % 2 ^ 32
    sum_n l = by (ltb 0 x) refl
      where
        by : (t : Bool) → ltb 0 x ≡ t → cell m (p + x) l ≡ (held l (up x) + share l (if t (along (x - 1)) none).sub) % 2 ^ 32
        by true t = L.joined x (ltb-true 0 x t) inside (omega arith) l
        by false t = let first = ltb-false 0 x t in alone x inside (λ b. absurd (omega arith)) l

    sum_nw : (l : Lane) → cell m (at_nw m width x y) l ≡ (held l NW + share l WW.sub) % 2 ^ 32
    sum_nw l = by (ltb 0 x) (ltb 1 x) refl refl
      where
        by : (t u : Bool) → ltb 0 x ≡ t → ltb 1 x ≡ u
            → cell m (if t (p + x - 1) (p + x)) l ≡ (held l (if t (up (x - 1)) (up x)) + share l (if u (along (x - 2)) none).sub) % 2 ^ 32
        by true true t u =
            let second = ltb-true 1 x u in
            let two : x - 1 - 1 ≡ x - 2 = omega arith in
            rw (back_one p x (omega arith), ← two) (L.joined (x - 1) (omega arith) (omega arith) (omega arith) l)
        by true false t u =
            let begun = ltb-true 0 x t in
            let first = ltb-false 1 x u in
            rw (back_one p x begun) (alone (x - 1) (omega arith) (λ b. absurd (omega arith)) l)
        by false true t u = absurd (omega (arith, ltb-false 0 x t, ltb-true 1 x u))
        by false false t u = let first = ltb-false 0 x t in alone x inside (λ b. absurd (omega arith)) l

    -- in the last column N is read again, with W's share
    sum_ne : (l : Lane) → cell m (at_ne m width x y) l ≡ (held l NE + if (ltb (x + 1) width) 0 (share l W.sub)) % 2 ^ 32
    sum_ne l = by (ltb (x + 1) width) refl
      where
        by : (t : Bool) → ltb (x + 1) width ≡ t
            → cell m (if t (p + x + 1) (p + x)) l ≡ (held l (if t (up (x + 1)) (up x)) + if t 0 (share l W.sub)) % 2 ^ 32
        by true t = rw on_one (omega (arith, L.bare (x + 1) (ltb-true (x + 1) width t) (λ b. omega arith) l))
        by false t = sum_n l

    sum_read : (l : Lane)
        → (word m (at_n m width x y) (place l) + word m (at_ne m width x y) (place l) + word m (at_nw m width x y) (place l)) % 2 ^ 32
        ≡ (held l N + share l W.sub + held l NW + share l WW.sub + held l NE + if (ltb (x + 1) width) 0 (share l W.sub)) % 2 ^ 32
    sum_read l =
        three_sums (word m (at_n m width x y) (place l)) (word m (at_ne m width x y) (place l)) (word m (at_nw m width x y) (place l)) (held l N)
        (share l W.sub) (held l NW) (share l WW.sub) (held l NE) (if (ltb (x + 1) width) 0 (share l W.sub)) (sum_n l) (sum_ne l) (sum_nw l)

    pub sums_read_lem : sums_read m width x y ≡ err_sums width past x y
    unfolding sums_read err_sums
    sums_read_lem = cc (sum_read sums0, sum_read sums1, sum_read sums2, sum_read sums3)
