-- Module 5 of document 01: the cells by groups of the mask. All wrap; cells outside the used groups stay.
use Rattle.std.specs.Prelude.{Bool, ◌&&◌, not, List, [], ◌∷◌, ◌++◌, ◌≡◌, ℕ, ◌+◌, ◌/◌, ◌%◌, ◌^◌, ◌≤◌, ltb, leb, eqb, ℤ, pos, ◌+ℤ◌, ◌-ℤ◌, length, get_or, set, take, drop, Result}
use Rattle.integer.specs.Fill.{tabulate}
use Rattle.integer.specs.Order.{if, magnitude}
use Rattle.integer.specs.Word.{wrap}
use Rattle.predict.specs.declared.neighbours.PredictionData.{PredictionData}
use Rattle.refusal.specs.Paper.{Outcome, gives, refuses, said, one_result, one_value}
use Rattle.refusal.specs.declared.Refusal.{Refusal}

-- before a channel's first pixel: cells 0 and 1 are channel and stream, the rest 0
abbrev pub start_cells : ℤ → ℤ → ℕ → List ℤ
start_cells channel stream n = set (set (tabulate (λ k. pos 0) n) 0 channel) 1 stream

-- whether one of `count` bits from bit `low` on is set
abbrev pub uses : ℕ → ℕ → ℕ → Bool
uses mask low count = not (eqb (mask / 2 ^ low % 2 ^ count) 0)

-- 2 y, 3 x
abbrev pub positioned : ℕ → ℕ → ℕ → List ℤ → List ℤ
positioned mask x y cells = if (uses mask 2 2) (set (set cells 2 (pos y)) 3 (pos x)) cells

module _ (mask : ℕ) (d : PredictionData) (cells : List ℤ) where
  -- 4 |top|, 5 |left|, 6 top, 7 left
  abbrev pub neighboured : List ℤ
  neighboured =
      if (uses mask 4 4)
      (set (set (set (set cells 4 (wrap (magnitude d.top))) 5 (wrap (magnitude d.left))) 6 d.top) 7 d.left)
      cells

  -- 8 left minus the old cell 9, 9 left + top - topleft
  abbrev pub graded : List ℤ
  graded =
      if (uses mask 8 2)
      (set (set cells 8 (wrap (d.left -ℤ get_or cells 9 (pos 0)))) 9 (wrap (wrap (d.left +ℤ d.top) -ℤ d.topleft)))
      cells

  -- 10 left - topleft, 11 topleft - top, 12 top - topright, 13 top - toptop, 14 left - leftleft
  abbrev pub contexted : List ℤ
  contexted =
      if (uses mask 10 5)
      (set
      (set
      (set (set (set cells 10 (wrap (d.left -ℤ d.topleft))) 11 (wrap (d.topleft -ℤ d.top))) 12 (wrap (d.top -ℤ d.topright)))
      13
      (wrap (d.top -ℤ d.toptop)))
      14
      (wrap (d.left -ℤ d.leftleft)))
      cells

-- 15 the weighted property
abbrev pub weighed : ℕ → ℤ → List ℤ → List ℤ
weighed mask property cells = if (uses mask 15 1) (set cells 15 property) cells

-- the cells needed: the 16, and the reference row where it is copied
abbrev pub cells_needed : ℕ → ℕ → ℕ
cells_needed mask references = if (uses mask 16 16) (16 + references) 16

abbrev pub Holds : ℕ → ℕ → ℕ → Type 0
Holds mask references cells = cells_needed mask references ≤ cells

-- from 16 the reference row, if any mask bit from 16 is set
abbrev pub referred : ℕ → List ℤ → List ℤ → List ℤ
referred mask references cells =
    if (uses mask 16 16) (take 16 cells ++ (references ++ drop (16 + length references) cells)) cells

-- ---- all groups, and when they are refused

abbrev pub filled_cells : ℕ → ℕ → ℕ → PredictionData → ℤ → List ℤ → List ℤ → List ℤ
filled_cells mask x y d property references cells =
    referred mask references (weighed mask property (contexted mask d (graded mask d (neighboured mask d (positioned mask x y cells)))))

-- a position of the picture, and as many cells needed as 32 bits can say: a reference row has no bound of its own
abbrev pub in_domain : ℕ → ℕ → ℕ → Bool
in_domain x y needed = ltb x 65536 && ltb y (2 ^ 30) && leb needed 4294967295

-- 11, then 10 with the cells needed
abbrev pub outcome : ℕ → ℕ → ℕ → ℕ → ℕ → Outcome Unit
outcome mask x y references cells =
    if (in_domain x y (cells_needed mask references))
    (if (ltb cells (cells_needed mask references)) (refuses 10 (pos (cells_needed mask references) ∷ [])) (gives tt))
    (refuses 11 (pos 0 ∷ []))

-- a refusal writes nothing
abbrev pub after : List ℤ → Outcome Unit → List ℤ → List ℤ
after filled (gives done) cells = filled
after filled (refuses number details) cells = cells

-- 10 where fewer than 16 are lent
abbrev pub starting : ℕ → Outcome Unit
starting cells = if (ltb cells 16) (refuses 10 (pos 16 ∷ [])) (gives tt)

-- ---- determinacy: of each promise, one answer and one list of cells

pub fills_determined : (mask x y : ℕ) (d : PredictionData) (property : ℤ) (references cells : List ℤ) (r s : Result Unit Refusal) {a b : List ℤ}
    → said r ≡ outcome mask x y (length references) (length cells)
    → a ≡ after (filled_cells mask x y d property references cells) (outcome mask x y (length references) (length cells)) cells
    → said s ≡ outcome mask x y (length references) (length cells)
    → b ≡ after (filled_cells mask x y d property references cells) (outcome mask x y (length references) (length cells)) cells
    → (r ≡ s) × (a ≡ b)
fills_determined mask x y d property references cells r s p f q g = (one_result r s p q, one_value f g)

pub starts_determined : (channel stream : ℤ) (cells : List ℤ) (r s : Result Unit Refusal) {a b : List ℤ}
    → said r ≡ starting (length cells) → a ≡ after (start_cells channel stream (length cells)) (starting (length cells)) cells
    → said s ≡ starting (length cells) → b ≡ after (start_cells channel stream (length cells)) (starting (length cells)) cells
    → (r ≡ s) × (a ≡ b)
starts_determined channel stream cells r s p f q g = (one_result r s p q, one_value f g)
