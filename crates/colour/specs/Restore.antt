-- Module 9 of document 01, colour: the image of a triple under an operation and an order, and of three planes.
use Rattle.std.specs.Prelude.{◌&&◌, ◌||◌, List, [], ◌∷◌, ◌≡◌, ℕ, ltb, eqb, ℤ, pos, ◌+ℤ◌, ◌-ℤ◌, length, get_or, Result}
use Rattle.std.proofs.Common.{sym, ◌∙◌}
use Rattle.std.specs.Int.Signed.{shr_z}
use Rattle.integer.specs.Fill.{tabulate}
use Rattle.integer.specs.Order.{if}
use Rattle.integer.specs.Word.{wrap}
use Rattle.refusal.specs.Paper.{Outcome, gives, refuses, said, one_result}
use Rattle.refusal.specs.declared.Refusal.{Refusal}
use Rattle.colour.specs.declared.restore.Triple.{Triple}

-- all wrap at 32 bits; a shift by one is a half rounded down
infixl 6 ◌⊕◌ ◌⊖◌
abbrev pub ◌⊕◌ : ℤ → ℤ → ℤ
x ⊕ y = wrap (x +ℤ y)

abbrev pub ◌⊖◌ : ℤ → ℤ → ℤ
x ⊖ y = wrap (x -ℤ y)

abbrev pub half : ℤ → ℤ
half z = shr_z z 2

-- ---- the operations on (a, b, c)

abbrev pub kept : Triple → Triple
kept t = t

-- c + a
abbrev pub to_third : Triple → Triple
to_third t = record { a = t.a; b = t.b; c = t.c ⊕ t.a }

-- b + a
abbrev pub to_second : Triple → Triple
to_second t = record { a = t.a; b = t.b ⊕ t.a; c = t.c }

-- b + ((a + c) >> 1)
abbrev pub averaged : Triple → Triple
averaged t = record { a = t.a; b = t.b ⊕ half (t.a ⊕ t.c); c = t.c }

-- y = a - (c >> 1), g = c + y, z = y - (b >> 1), giving (z + b, g, z)
abbrev pub y_co_cg : Triple → Triple
y_co_cg t =
    record {
      a = t.a ⊖ half t.c ⊖ half t.b ⊕ t.b;
      b = t.c ⊕ (t.a ⊖ half t.c);
      c = t.a ⊖ half t.c ⊖ half t.b;
    }

-- 0 nothing; 1 c + a; 2 b + a; 3 both; 4 the average; 5 c + a, then 4; 6
abbrev pub operations : List (Triple → Triple)
operations =
    kept ∷ to_third ∷ to_second ∷ (λ t. to_second (to_third t)) ∷ averaged ∷ (λ t. averaged (to_third t)) ∷ y_co_cg ∷ []

abbrev pub operate : ℕ → Triple → Triple
operate operation = get_or operations operation kept

-- ---- the orders of (a, b, c): abc, cab, bca, acb, bac, cba

abbrev pub orders : List (Triple → Triple)
orders =
    kept
    ∷ (λ t. record { a = t.c; b = t.a; c = t.b })
    ∷ (λ t. record { a = t.b; b = t.c; c = t.a })
    ∷ (λ t. record { a = t.a; b = t.c; c = t.b })
    ∷ (λ t. record { a = t.b; b = t.a; c = t.c })
    ∷ (λ t. record { a = t.c; b = t.b; c = t.a })
    ∷ []

abbrev pub reorder : ℕ → Triple → Triple
reorder order = get_or orders order kept

-- the operation first, then the order
abbrev pub image : ℕ → ℕ → Triple → Triple
image operation order t = reorder order (operate operation t)

-- ---- three planes

abbrev pub at : List ℤ → List ℤ → List ℤ → ℕ → Triple
at a b c i = record { a = get_or a i (pos 0); b = get_or b i (pos 0); c = get_or c i (pos 0) }

abbrev pub first : Triple → ℤ
first t = t.a

abbrev pub second : Triple → ℤ
second t = t.b

abbrev pub third : Triple → ℤ
third t = t.c

-- word i of a plane afterwards is the picked one of the image of the triple at i
abbrev pub restored : (Triple → ℤ) → ℕ → ℕ → List ℤ → List ℤ → List ℤ → ℕ → ℤ
restored pick operation order a b c i = pick (image operation order (at a b c i))

-- the three planes afterwards
pub record Written (operation order : ℕ) (a b c a' b' c' : List ℤ) : Type 0 where
  pub first_is : a' ≡ tabulate (restored first operation order a b c) (length a)
  pub second_is : b' ≡ tabulate (restored second operation order a b c) (length a)
  pub third_is : c' ≡ tabulate (restored third operation order a b c) (length a)

-- 14 for an operation over 6 or an order over 5, then 11 for unequal lengths
abbrev pub outcome : ℕ → ℕ → List ℤ → List ℤ → List ℤ → Outcome Unit
outcome operation order a b c =
    if (ltb 6 operation || ltb 5 order) (refuses 14 (pos 0 ∷ []))
    (if (eqb (length b) (length a) && eqb (length c) (length a)) (gives tt) (refuses 11 (pos 0 ∷ [])))

-- a refusal writes nothing
abbrev pub after : (Triple → ℤ) → ℕ → ℕ → List ℤ → List ℤ → List ℤ → Outcome Unit → List ℤ → List ℤ
after pick operation order a b c (gives done) plane = tabulate (restored pick operation order a b c) (length a)
after pick operation order a b c (refuses number details) plane = plane

-- ---- determinacy

pub restores_determined : (operation order : ℕ) (a b c : List ℤ) (r s : Result Unit Refusal) {a' b' c' a'' b'' c'' : List ℤ}
    → said r ≡ outcome operation order a b c → said s ≡ outcome operation order a b c
    → a' ≡ after first operation order a b c (outcome operation order a b c) a
    → a'' ≡ after first operation order a b c (outcome operation order a b c) a
    → b' ≡ after second operation order a b c (outcome operation order a b c) b
    → b'' ≡ after second operation order a b c (outcome operation order a b c) b
    → c' ≡ after third operation order a b c (outcome operation order a b c) c
    → c'' ≡ after third operation order a b c (outcome operation order a b c) c
    → (r ≡ s) × (a' ≡ a'') × (b' ≡ b'') × (c' ≡ c'')
restores_determined operation order a b c r s p q pa qa pb qb pc qc = (one_result r s p q, pa ∙ sym qa, pb ∙ sym qb, pc ∙ sym qc)
