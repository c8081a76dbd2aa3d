-- What validation answers, and what the work area holds afterwards.
use Rattle.std.specs.Prelude.{Bool, true, false, ◌&&◌, not, List, [], ◌∷◌, ◌≡◌, ℕ, ltb, eqb, ℤ, pos, length, Result}
use Rattle.integer.specs.Fill.{filled}
use Rattle.integer.specs.Order.{if}
use Rattle.nodes.specs.Nodes.{then}
use Rattle.refusal.specs.Paper.{Outcome, gives, refuses, said, one_value}
use Rattle.refusal.specs.declared.Refusal.{Refusal}
use Rattle.validation.specs.Frames.{area_needed}
use Rattle.validation.specs.Shape.{shape}
use Rattle.validation.specs.Verdict.{verdict_determined}
use Rattle.validation.specs.Visit.{visit, levels, all_ranges}

-- 1 to 4, then 8, then what the visit finds; the empty list needs nothing
abbrev pub validation : List ℤ → ℕ → Outcome Unit
validation words area =
    then (shape words)
    (if (eqb (length words) 0) (gives tt) (if (ltb area area_needed) (refuses 8 (pos area_needed ∷ [])) (visit words levels 0 all_ranges)))

abbrev pub passes : Outcome Unit → Bool
passes (gives u) = true
passes (refuses number details) = false

-- whether the visit takes place
abbrev pub visits : List ℤ → ℕ → Bool
visits words area = passes (shape words) && (not (eqb (length words) 0) && not (ltb area area_needed))

-- after a visit the area's first words are zero; else no word has changed
abbrev pub area_after : List ℤ → List ℤ → List ℤ
area_after words work = if (visits words (length work)) (filled (λ i. pos 0) area_needed work) work

pub validates_determined : (words work : List ℤ) {r s : Result Unit Refusal} {a b : List ℤ}
    → said r ≡ validation words (length work) → a ≡ area_after words work
    → said s ≡ validation words (length work) → b ≡ area_after words work
    → (r ≡ s) × (a ≡ b)
validates_determined words work {r} {s} answers leaves answers' leaves' = (verdict_determined r s answers answers', one_value leaves leaves')
