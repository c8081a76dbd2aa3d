-- The inverse reversible colour transform of ISO/IEC 18181-1's modular annex: its rct_type, its tests on the type's bits and its
-- rule for the permutation. Samples are 32-bit and each sum and difference keeps its low word. What it rests on is said in
-- docs/DIFFERENCES.md: the standard's text is not at hand.
use Rattle.std.specs.Prelude.{List, [], ◌∷◌, ℕ, ◌+◌, ◌-◌, ◌/◌, ◌%◌, eqb, ℤ, pos, get_or, set}
use Rattle.integer.specs.Order.{if}
use Rattle.colour.specs.Restore.{◌⊕◌, ◌⊖◌, half}
use Rattle.colour.specs.declared.restore.Triple.{Triple}

-- type 6: tmp = A - (C >> 1); E = C + tmp; F = tmp - (B >> 1); D = F + B
abbrev sixth : Triple → Triple
sixth v =
    record {
      a = v.a ⊖ half v.c ⊖ half v.b ⊕ v.b;
      b = v.c ⊕ (v.a ⊖ half v.c);
      c = v.a ⊖ half v.c ⊖ half v.b;
    }

-- the others, by the bits of the type: if (type & 1) C += A; if (type >> 1 is 1) B += A; if (type >> 1 is 2) B += (A + C) >> 1
abbrev with_c : ℕ → Triple → Triple
with_c type v = if (eqb (type % 2) 1) record { a = v.a; b = v.b; c = v.c ⊕ v.a } v

abbrev with_b : ℕ → Triple → Triple
with_b type v =
    if (eqb (type / 2) 1) record { a = v.a; b = v.b ⊕ v.a; c = v.c }
    (if (eqb (type / 2) 2) record { a = v.a; b = v.b ⊕ half (v.a ⊕ v.c); c = v.c } v)

-- D, E, F of A, B, C
abbrev pub transformed : ℕ → Triple → Triple
transformed type v = if (eqb type 6) (sixth v) (with_b type (with_c type v))

-- V[p Umod 3] = D, V[(p + 1 + (p Idiv 3)) Umod 3] = E, V[(p + 2 - (p Idiv 3)) Umod 3] = F
abbrev places : ℕ → Triple → List ℤ
places p def =
    set (set (set (pos 0 ∷ pos 0 ∷ pos 0 ∷ []) (p % 3) def.a) ((p + 1 + p / 3) % 3) def.b) ((p + 2 - p / 3) % 3) def.c

abbrev pub permuted : ℕ → Triple → Triple
permuted p def = record { a = get_or (places p def) 0 (pos 0); b = get_or (places p def) 1 (pos 0); c = get_or (places p def) 2 (pos 0) }

-- the permutation is rct_type Idiv 7, the type rct_type Umod 7
abbrev pub inverse : ℕ → Triple → Triple
inverse rct v = permuted (rct / 7) (transformed (rct % 7) v)
