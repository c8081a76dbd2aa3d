-- What the domain of the fetch says, part by part.
use borrow.Author.Tests.{ltb-true, leb-true, eqb-true, le-leb, lt-ltb, eq-eqb}
use lib.Dec.{ltb, leb, eqb}
use lib.IntN.{ℤ}
use lib.ListN.{length}
use mathlib.Core.Bool.{Bool, true, false, ◌&&◌}
use mathlib.Core.List.{List}
use mathlib.Core.Path.{◌≡◌, refl}
use Prim.Native.Nat.{ℕ, ◌≤◌, ◌<◌, ◌^◌}
use native.Mathlib.Omega.{arith}
use Rattle.integer.proofs.Tests.{and_left, and_right}
use Rattle.integer.specs.Order.{if}
use Rattle.predict.specs.Neighbours.{in_domain, has_width}

pub record Domain (row top toptop : List ℤ) (x y : ℕ) : Type 0 where
  pub narrow : length row ≤ 65536
  pub inside : x < length row
  pub early : y < 2 ^ 30
  pub above : 1 ≤ y → length top ≡ length row
  pub above2 : 2 ≤ y → length toptop ≡ length row

wide : (least y width : ℕ) (row : List ℤ) → has_width least y row width ≡ true → least ≤ y → length row ≡ width
wide least y width row e h = eqb-true (length row) width (simp (le-leb least y h) at e)

pub domain : (row top toptop : List ℤ) (x y : ℕ) → in_domain row top toptop x y ≡ true → Domain row top toptop x y
domain row top toptop x y e =
    let a = leb 1 (length row) in
    let b = leb (length row) 65536 in
    let c = ltb x (length row) in
    let d = ltb y (2 ^ 30) in
    let f = has_width 1 y top (length row) in
    let g = has_width 2 y toptop (length row) in
    let e5 = and_left (a && b && c && d && f) g e in
    let e4 = and_left (a && b && c && d) f e5 in
    let e3 = and_left (a && b && c) d e4 in
    let e2 = and_left (a && b) c e3 in
    record {
      narrow = leb-true (length row) 65536 (and_right a b e2);
      inside = ltb-true x (length row) (and_right (a && b) c e3);
      early = ltb-true y (2 ^ 30) (and_right (a && b && c) d e4);
      above = wide 1 y (length row) top (and_right (a && b && c && d) f e5);
      above2 = wide 2 y (length row) toptop (and_right (a && b && c && d && f) g e);
    }

narrow_enough : (least y width : ℕ) (row : List ℤ) → (least ≤ y → length row ≡ width) → has_width least y row width ≡ true
narrow_enough least y width row h = by (leb least y) refl
  where
    by : (t : Bool) → leb least y ≡ t → if t (eqb (length row) width) true ≡ true
    by true e = eq-eqb (length row) width (h (leb-true least y e))
    by false e = refl

pub in_domain_lem : (row top toptop : List ℤ) (x y : ℕ) → Domain row top toptop x y → in_domain row top toptop x y ≡ true
in_domain_lem row top toptop x y d =
    let some : 1 ≤ length row = omega (arith, d.inside) in
    simp (
      le-leb 1 (length row) some,
      le-leb (length row) 65536 d.narrow,
      lt-ltb x (length row) d.inside,
      lt-ltb y (2 ^ 30) d.early,
      narrow_enough 1 y (length row) top d.above,
      narrow_enough 2 y (length row) toptop d.above2,
    )
