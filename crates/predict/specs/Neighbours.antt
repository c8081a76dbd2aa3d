-- Module 2 of document 01: the seven neighbours by the fallbacks of `get_rows`, when they are refused, and the interior shortcut.
use Rattle.std.specs.Prelude.{Bool, true, ◌&&◌, List, [], ◌∷◌, ◌≡◌, ℕ, ◌+◌, ◌-◌, ◌^◌, ◌≤◌, ◌<◌, ltb, leb, eqb, ℤ, pos, length, get_or, Result}
use Rattle.integer.specs.Order.{if}
use Rattle.refusal.specs.Paper.{Outcome, gives, refuses, said, one_result}
use Rattle.refusal.specs.declared.Refusal.{Refusal}
use Rattle.predict.specs.declared.neighbours.PredictionData.{PredictionData}

-- `get_or row k fallback` is cell k of the row, else the fallback; a row that is absent is empty

-- the cell `back` places before x, else the fallback
abbrev pub before : List ℤ → ℕ → ℕ → ℤ → ℤ
before row x back fallback = if (leb back x) (get_or row (x - back) fallback) fallback

-- left, else the cell above, else 0; top, topleft else left; topright, toptop else top; leftleft else left; toprightright else topright
module _ (row above above2 : List ℤ) (x : ℕ) where
  abbrev pub left_of : ℤ
  left_of = before row x 1 (get_or above 0 (pos 0))

  abbrev pub top_of : ℤ
  top_of = get_or above x left_of

  abbrev pub topright_of : ℤ
  topright_of = get_or above (x + 1) top_of

  unfoldable pub fetched : PredictionData
  fetched = record {
    left = left_of;
    top = top_of;
    toptop = get_or above2 x top_of;
    topleft = before above x 1 left_of;
    topright = topright_of;
    leftleft = before row x 2 left_of;
    toprightright = get_or above (x + 2) topright_of;
  }

-- all seven are there: two columns on both sides of x, and both rows above as wide as the row
pub record Inside (row above above2 : List ℤ) (x : ℕ) : Type 0 where
  pub begun : 2 ≤ x
  pub ends : x + 2 < length row
  pub as_wide : length above ≡ length row
  pub as_wide_2 : length above2 ≡ length row
  pub narrow : length row ≤ 65536

-- a row above counts only where y has it
abbrev pub present : ℕ → ℕ → List ℤ → List ℤ
present least y row = if (leb least y) row []

-- it must then have the width
abbrev pub has_width : ℕ → ℕ → List ℤ → ℕ → Bool
has_width least y row width = if (leb least y) (eqb (length row) width) true

-- width 1..65,536, x below it, y below 2^30, the rows above of that width where y has them
abbrev pub in_domain : List ℤ → List ℤ → List ℤ → ℕ → ℕ → Bool
in_domain row top toptop x y =
    leb 1 (length row) && leb (length row) 65536 && ltb x (length row) && ltb y (2 ^ 30)
    && has_width 1 y top (length row) && has_width 2 y toptop (length row)

-- 11 outside the domain
abbrev pub neighbours : List ℤ → List ℤ → List ℤ → ℕ → ℕ → Outcome PredictionData
neighbours row top toptop x y =
    if (in_domain row top toptop x y) (gives (fetched row (present 1 y top) (present 2 y toptop) x)) (refuses 11 (pos 0 ∷ []))

-- ---- the shortcut inside a row

-- a cell that is needed, else 0
abbrev pub needed : List ℤ → ℕ → Bool → ℤ
needed row k needs = if needs (get_or row k (pos 0)) (pos 0)

-- x at least 2 and x + 2 below the row above's length, which is at most 65,536; a needed row two up holds cell x
abbrev pub interior : List ℤ → List ℤ → ℕ → Bool → Bool
interior top toptop x needs_toptop =
    leb 2 x && leb (length top) 65536 && ltb (x + 2) (length top)
    && if needs_toptop (leb (length toptop) 65536 && ltb x (length toptop)) true

-- each neighbour one place on: cur is the new left
abbrev pub moved : PredictionData → List ℤ → List ℤ → ℕ → ℤ → Bool → Bool → PredictionData
moved old top toptop x cur needs_top needs_toptop = record {
  left = cur;
  top = old.topright;
  toptop = needed toptop x needs_toptop;
  topleft = old.top;
  topright = old.toprightright;
  leftleft = old.left;
  toprightright = needed top (x + 2) needs_top;
}

abbrev pub shortcut : PredictionData → List ℤ → List ℤ → ℕ → ℤ → Bool → Bool → Outcome PredictionData
shortcut old top toptop x cur needs_top needs_toptop =
    if (interior top toptop x needs_toptop) (gives (moved old top toptop x cur needs_top needs_toptop)) (refuses 11 (pos 0 ∷ []))

-- ---- determinacy of both promises

pub neighbourhood_determined : {v : Outcome PredictionData} (r s : Result PredictionData Refusal) → said r ≡ v → said s ≡ v → r ≡ s
neighbourhood_determined r s p q = one_result r s p q
