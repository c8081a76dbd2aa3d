-- The library's fetch gives the standard's neighbours, from any three rows that show the channel.
use borrow.Author.Tests.{ltb-true, ltb-false, lt-ltb}
use lib.Dec.{ltb, leb}
use lib.IntN.{ℤ, pos}
use lib.ListN.{length, get_or, get_or-eq_default}
use mathlib.Core.Bool.{Bool, true, false, ◌&&◌, and-false, and-true}
use mathlib.Core.List.{List, []}
use mathlib.Core.Path.{◌≡◌, refl, ap, ◌∙◌}
use native.Mathlib.Omega.{arith}
use Prim.Native.Nat.{ℕ, ◌+◌, ◌-◌, ◌≤◌, ◌<◌}
use Rattle.integer.specs.Order.{if}
use Rattle.refusal.specs.Paper.{gives}
use Rattle.predict.specs.Neighbours.{before, present, fetched, left_of, top_of, topright_of, in_domain, neighbours}
use Rattle.predict.specs.Standard.{Shows, W, N, NW, NE, NN, WW, NEE}
use Rattle.predict.proofs.Domain.{Domain, domain}
use Rattle.predict.proofs.Rows.{cell_there}

-- a row of the width that shows f, or nothing where the test fails
shown : (f : ℕ → ℤ) (row : List ℤ) (width : ℕ) (here : Bool) → (here ≡ true → length row ≡ width)
    → (here ≡ true → (k : ℕ) → k < width → get_or row k (pos 0) ≡ f k)
    → (k : ℕ) (d : ℤ) → get_or (if here row []) k d ≡ if (ltb k width && here) (f k) d
shown f row width false long cells k d = simp and-false
shown f row width true long cells k d = simp and-true (by (ltb k width) refl)
  where
    by : (t : Bool) → ltb k width ≡ t → get_or row k d ≡ if t (f k) d
    by true e =
        let h : k < length row = omega (arith, ltb-true k width e, long refl) in
        cell_there row k d (pos 0) h ∙ cells refl k (ltb-true k width e)
    by false e =
        let h : length row ≤ k = omega (arith, ltb-false k width e, long refl) in
        get_or-eq_default row d h

module _ (v : ℕ → ℕ → ℤ) (row top toptop : List ℤ) (x y : ℕ) (d : Domain row top toptop x y) (h : Shows v row top toptop x y) where
  above_cell : (k : ℕ) (f : ℤ) → get_or (present 1 y top) k f ≡ if (ltb k (length row) && ltb 0 y) (v k (y - 1)) f
  above_cell =
      shown (λ k. v k (y - 1)) top (length row) (leb 1 y) (λ e. d.above (ltb-true 0 y e)) (λ e. h.above (ltb-true 0 y e))

  above2_cell : (k : ℕ) (f : ℤ) → get_or (present 2 y toptop) k f ≡ if (ltb k (length row) && ltb 1 y) (v k (y - 2)) f
  above2_cell =
      shown (λ k. v k (y - 2)) toptop (length row) (leb 2 y) (λ e. d.above2 (ltb-true 1 y e)) (λ e. h.above2 (ltb-true 1 y e))

  here : ltb x (length row) ≡ true
  here = lt-ltb x (length row) d.inside

  abbrev a : List ℤ
  a = present 1 y top

  abbrev b : List ℤ
  b = present 2 y toptop

  left_is : left_of row a b x ≡ W v (length row) x y
  left_is = by (ltb 0 x) refl
    where
      by : (t : Bool) → ltb 0 x ≡ t → if t (get_or row (x - 1) (get_or a 0 (pos 0))) (get_or a 0 (pos 0)) ≡ if t (v (x - 1) y) (if (ltb 0 y) (v x (y - 1)) (pos 0))
      by true e =
          let begun = ltb-true 0 x e in
          cell_there row (x - 1) (get_or a 0 (pos 0)) (pos 0) (omega (arith, d.inside)) ∙ h.known (x - 1) (omega arith)
      by false e =
          let first : 0 ≡ x = omega (arith, ltb-false 0 x e) in
          ap (λ (k : ℕ). get_or a k (pos 0)) first ∙ above_cell x (pos 0) ∙ simp here

  top_is : top_of row a b x ≡ N v (length row) x y
  top_is = above_cell x (left_of row a b x) ∙ simp (here, left_is)

  topright_is : topright_of row a b x ≡ NE v (length row) x y
  topright_is = above_cell (x + 1) (top_of row a b x) ∙ simp top_is

  toptop_is : get_or b x (top_of row a b x) ≡ NN v (length row) x y
  toptop_is = above2_cell x (top_of row a b x) ∙ simp (here, top_is)

  toprightright_is : get_or a (x + 2) (topright_of row a b x) ≡ NEE v (length row) x y
  toprightright_is = above_cell (x + 2) (topright_of row a b x) ∙ simp topright_is

  topleft_is : before a x 1 (left_of row a b x) ≡ NW v (length row) x y
  topleft_is = by (ltb 0 x) refl
    where
      by : (t : Bool) → ltb 0 x ≡ t → if t (get_or a (x - 1) (left_of row a b x)) (left_of row a b x) ≡ if (t && ltb 0 y) (v (x - 1) (y - 1)) (W v (length row) x y)
      by true e =
          let inside : ltb (x - 1) (length row) ≡ true = lt-ltb (x - 1) (length row) (omega (arith, d.inside)) in
          above_cell (x - 1) (left_of row a b x) ∙ simp (inside, left_is)
      by false e = left_is

  leftleft_is : before row x 2 (left_of row a b x) ≡ WW v (length row) x y
  leftleft_is = by (ltb 1 x) refl
    where
      by : (t : Bool) → ltb 1 x ≡ t → if t (get_or row (x - 2) (left_of row a b x)) (left_of row a b x) ≡ if t (v (x - 2) y) (W v (length row) x y)
      by true e =
          let begun = ltb-true 1 x e in
          cell_there row (x - 2) (left_of row a b x) (pos 0) (omega (arith, d.inside)) ∙ h.known (x - 2) (omega arith)
      by false e = left_is

-- The fetch is the standard's.
pub fetch_is_standard : (v : ℕ → ℕ → ℤ) (row top toptop : List ℤ) (x y : ℕ) → in_domain row top toptop x y ≡ true → Shows v row top toptop x y
    → neighbours row top toptop x y
    ≡ gives
    record {
      left = W v (length row) x y;
      top = N v (length row) x y;
      toptop = NN v (length row) x y;
      topleft = NW v (length row) x y;
      topright = NE v (length row) x y;
      leftleft = WW v (length row) x y;
      toprightright = NEE v (length row) x y;
    }
unfolding fetched
fetch_is_standard v row top toptop x y e h =
    let d = domain row top toptop x y e in
    simp e
    (cc (
      left_is v row top toptop x y d h,
      top_is v row top toptop x y d h,
      toptop_is v row top toptop x y d h,
      topleft_is v row top toptop x y d h,
      topright_is v row top toptop x y d h,
      leftleft_is v row top toptop x y d h,
      toprightright_is v row top toptop x y d h,
    ))
