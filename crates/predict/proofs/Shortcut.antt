-- When the interior shortcut equals a fresh fetch, and that it need not in the second row.
use borrow.Author.Tests.{le-leb, lt-ltb}
use lib.IntN.{ℤ, pos, nat_abs}
use lib.ListN.{length, get_or}
use mathlib.Core.Bool.{true}
use mathlib.Core.List.{List, [], ◌∷◌}
use mathlib.Core.Path.{◌≡◌, sym, ap, ◌∙◌}
use native.Mathlib.Omega.{arith}
use Prim.Native.Nat.{ℕ, ◌+◌, ◌-◌, ◌≤◌, ◌<◌}
use Rattle.refusal.specs.Paper.{Outcome, gives, refuses}
use Rattle.predict.specs.declared.neighbours.PredictionData.{PredictionData}
use Rattle.predict.specs.Neighbours.{Inside, fetched, left_of, top_of, topright_of, in_domain, neighbours, shortcut}
use Rattle.predict.proofs.Domain.{domain, in_domain_lem}
use Rattle.predict.proofs.Rows.{cell_there, fetched_inside}

-- the neighbours that the shortcut takes over, as the fetch at x - 1 has them
module _ (row top toptop : List ℤ) (x : ℕ) (begun : 2 ≤ x) (ends : x + 2 < length row) (as_wide : length top ≡ length row) where
  last : (fetched row top toptop (x - 1)).left ≡ get_or row (x - 2) (pos 0)
  unfolding fetched
  last =
      let one : 1 ≤ x - 1 = omega arith in
      let at : (x - 1) - 1 ≡ x - 2 = omega arith in
      simp (le-leb 1 (x - 1) one, at) (cell_there row (x - 2) (get_or top 0 (pos 0)) (pos 0) (omega arith))

  over : (fetched row top toptop (x - 1)).top ≡ get_or top (x - 1) (pos 0)
  unfolding fetched
  over = cell_there top (x - 1) (left_of row top toptop (x - 1)) (pos 0) (omega arith)

  next : (fetched row top toptop (x - 1)).topright ≡ get_or top x (pos 0)
  unfolding fetched
  next =
      let at : x - 1 + 1 ≡ x = omega arith in
      simp at (cell_there top x (top_of row top toptop (x - 1)) (pos 0) (omega arith))

  far : (fetched row top toptop (x - 1)).toprightright ≡ get_or top (x + 1) (pos 0)
  unfolding fetched
  far =
      let at : x - 1 + 2 ≡ x + 1 = omega arith in
      simp at (cell_there top (x + 1) (topright_of row top toptop (x - 1)) (pos 0) (omega arith))

given : {a b : PredictionData} → gives a ≡ gives b → a ≡ b
given e = cc

-- Both needs set, y at least 2, all rows of one width, the data shifted that of the fetch at x - 1 in the same row, the value
-- given that row's cell x - 1: the shortcut is the fetch at x.
pub shortcut_is_fetch : (row top toptop : List ℤ) (x y : ℕ) (old : PredictionData)
    → 2 ≤ y → 2 ≤ x → x + 2 < length row → in_domain row top toptop x y ≡ true → neighbours row top toptop (x - 1) y ≡ gives old
    → shortcut old top toptop x (get_or row (x - 1) (pos 0)) true true ≡ neighbours row top toptop x y
shortcut_is_fetch row top toptop x y old deep begun ends e is =
    let d = domain row top toptop x y e in
    let one : 1 ≤ y = omega arith in
    let wide = d.above one in
    let wide2 = d.above2 deep in
    let here : Inside row top toptop x = record { begun = begun; ends = ends; as_wide = wide; as_wide_2 = wide2; narrow = d.narrow } in
    let before : in_domain row top toptop (x - 1) y ≡ true =
    in_domain_lem row top toptop (x - 1) y (record { narrow = d.narrow; inside = omega arith; early = d.early; above = d.above; above2 = d.above2 }) in
    let was : neighbours row top toptop (x - 1) y ≡ gives (fetched row top toptop (x - 1)) =
    simp before (simp (le-leb 1 y one, le-leb 2 y deep)) in
    let old_is : fetched row top toptop (x - 1) ≡ old = given (sym was ∙ is) in
    let narrow_top : length top ≤ 65536 = omega (arith, d.narrow) in
    let narrow_toptop : length toptop ≤ 65536 = omega (arith, d.narrow) in
    let ends_top : x + 2 < length top = omega arith in
    let there : x < length toptop = omega arith in
    simp e
    (simp (
      le-leb 1 y one,
      le-leb 2 y deep,
      le-leb 2 x begun,
      le-leb (length top) 65536 narrow_top,
      lt-ltb (x + 2) (length top) ends_top,
      le-leb (length toptop) 65536 narrow_toptop,
      lt-ltb x (length toptop) there,
      ← old_is,
      ← (fetched_inside row top toptop x here),
    )
    (cc (
      last row top toptop x begun ends wide,
      over row top toptop x begun ends wide,
      next row top toptop x begun ends wide,
      far row top toptop x begun ends wide,
    )))

-- In the second row it need not be: the fetch has no row two up, and the shortcut reads the one that is lent.
abbrev dark : List ℤ
dark = pos 0 ∷ pos 0 ∷ pos 0 ∷ pos 0 ∷ pos 0 ∷ []

abbrev bright : List ℤ
bright = pos 7 ∷ pos 7 ∷ pos 7 ∷ pos 7 ∷ pos 7 ∷ []

abbrev toptop_of : Outcome PredictionData → ℕ
toptop_of (gives seven) = nat_abs seven.toptop
toptop_of (refuses number details) = 0

pub shortcut_differs : (old : PredictionData) → neighbours dark dark bright 1 1 ≡ gives old
    → shortcut old dark bright 2 (pos 0) true true ≡ neighbours dark dark bright 2 1 → ⊥
unfolding fetched
shortcut_differs old is e = let z : ◌≡◌ {A = ℕ} 7 0 = ap toptop_of e in omega arith
