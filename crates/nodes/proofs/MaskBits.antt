-- What the mask means: bit b is set exactly when some split among the nodes sets it.
use borrow.Author.Tests.{eqb-true, le-leb}
use lib.Bits.{bit_or, or_shr, or_mod}
use lib.Dec.{eqb}
use lib.IntN.{ℤ}
use lib.ListN.{length}
use mathlib.Core.Bool.{Bool, true, false, ◌&&◌}
use mathlib.Core.List.{List}
use mathlib.Core.Logic.{◌⊎◌, inl, inr, ⊎_elim}
use mathlib.Core.Path.{◌≡◌, refl, sym, ap, ◌∙◌}
use native.Mathlib.Decide.{dec_lt}
use native.Mathlib.Nat.{mod-lt, zero-div}
use native.Mathlib.Omega.{arith}
use Prim.Native.Nat.{ℕ, zero, suc, ◌/◌, ◌%◌, ◌^◌, ◌≤◌, ◌<◌}
use Rattle.integer.proofs.Tests.{and_left, and_right}
use Rattle.refusal.proofs.Outcomes.{same_given, no_refusal}
use Rattle.refusal.specs.Paper.{Outcome, gives, refuses}
use Rattle.nodes.proofs.Lists.{counted_fits}
use Rattle.nodes.specs.Mask.{bit, bits_for, bits_of_node, includes, with_node, mask_up_to, mask_by, mask_of, Tested}
use Rattle.nodes.specs.Nodes.{counted, node_at}
use Rattle.nodes.specs.declared.Split.{Split}
use Rattle.nodes.specs.declared.Node.{Node}
use Rattle.nodes.specs.declared.Node.TheVariants as node

-- ---- the bits of a property, by one computation over 32 properties and 32 bits

abbrev all_below : (ℕ → Bool) → ℕ → Bool
all_below f zero = true
all_below f (suc n) = all_below f n && f n

below : (f : ℕ → Bool) (n i : ℕ) → all_below f n ≡ true → i < n → f i ≡ true
below f zero i e h = absurd (omega arith)
below f (suc n) i e h = by (dec_lt i n) (below f n i (and_left (all_below f n) (f n) e))
  where
    by : Dec (i < n) → (i < n → f i ≡ true) → f i ≡ true
    by (yes lower) before = before lower
    by (no later) before = let is : i ≡ n = omega (arith, later) in rw is (and_right (all_below f n) (f n) e)

abbrev digit : Bool → ℕ
digit true = 1
digit false = 0

abbrev as_included : ℕ → ℕ → Bool
as_included property b = eqb (bit (bits_for property) b) (digit (includes property b))

small : all_below (λ p. all_below (λ b. as_included p b) 32) 32 ≡ true
small = refl

large : all_below (λ b. eqb (bit 4294967295 b) 1) 32 ≡ true
large = refl

-- a bit of a property's bits is set where the property includes it
bits_of_property : (property b : ℕ) → b < 32 → bit (bits_for property) b ≡ digit (includes property b)
bits_of_property property b h = by (dec_lt property 32)
  where
    by : Dec (property < 32) → bit (bits_for property) b ≡ digit (includes property b)
    by (yes low) =
        eqb-true (bit (bits_for property) b) (digit (includes property b))
        (below (as_included property) 32 b (below (λ p. all_below (as_included p) 32) 32 property small low) h)
    by (no high) =
        let all : 32 ≤ property = omega (arith, high) in
        simp (le-leb 32 property all) (eqb-true (bit 4294967295 b) 1 (below (λ b. eqb (bit 4294967295 b) 1) 32 b large h))

-- ---- a bit of an or

-- of two digits
or_digit : (x y : ℕ) → x < 2 → bit_or x y ≡ 1 → (x ≡ 1) ⊎ (y ≡ 1)
or_digit zero y hx e = inr e
or_digit (suc zero) y hx e = inl refl
or_digit (suc (suc x)) y hx e = absurd (omega arith)

digit_or : (x y : ℕ) → x < 2 → y < 2 → (x ≡ 1) ⊎ (y ≡ 1) → bit_or x y ≡ 1
digit_or zero y hx hy (inl e) = absurd (omega arith)
digit_or zero y hx hy (inr e) = e
digit_or (suc zero) zero hx hy e = refl
digit_or (suc zero) (suc zero) hx hy e = refl
digit_or (suc zero) (suc (suc y)) hx hy e = absurd (omega arith)
digit_or (suc (suc x)) y hx hy e = absurd (omega arith)

bit_or_lem : (x y b : ℕ) → bit (bit_or x y) b ≡ bit_or (bit x b) (bit y b)
bit_or_lem x y b = ap (λ (n : ℕ). n % 2) (or_shr x y b) ∙ or_mod (x / 2 ^ b) (y / 2 ^ b) 1

bit_small : (x b : ℕ) → bit x b < 2
bit_small x b = mod-lt (x / 2 ^ b) (omega arith)

bit_none : (b : ℕ) → bit 0 b ≡ 0
bit_none b = rw (zero-div (2 ^ b))

-- ---- node after node

-- an answer with one node more
record More (o : Outcome ℕ) (x : Outcome Node) (m : ℕ) : Type 0 where
  bits : ℕ
  last : Node
  gave : o ≡ gives bits
  reads : x ≡ gives last
  joins : bit_or bits (bits_of_node last) ≡ m

more : (o : Outcome ℕ) (x : Outcome Node) (m : ℕ) → with_node o x ≡ gives m → More o x m
more (gives bits) (gives n) m e = record { bits = bits; last = n; gave = refl; reads = refl; joins = same_given e }
more (gives bits) (refuses number details) m e = absurd (no_refusal e)
more (refuses number details) x m e = absurd (no_refusal e)

included : (t : Bool) → digit t ≡ 1 → t ≡ true
included true e = refl
included false e = absurd (omega arith)

module _ (words : List ℤ) (b : ℕ) (h : b < 32) where
  later : (n : ℕ) → Tested words n b → Tested words (suc n) b
  later n t = record { place = t.place; early = omega (arith, t.early); split = t.split; is = t.is; sets = t.sets }

  here : (n : ℕ) (x : Node) → node_at words n ≡ gives x → bit (bits_of_node x) b ≡ 1 → Tested words (suc n) b
  here n (node.Split split) is e =
      record { place = n; early = omega arith; split = split; is = is; sets = included (includes split.property b) (sym (bits_of_property split.property b h) ∙ e) }
  here n (node.Leaf leaf) is e = absurd (omega (arith, e, bit_none b))

  pub set_tested : (n m : ℕ) → mask_up_to words n ≡ gives m → bit m b ≡ 1 → Tested words n b
  set_tested zero m is e = let none : bit m b ≡ 0 = rw (← (same_given is)) (bit_none b) in absurd (omega arith)
  set_tested (suc n) m is e =
      let s = more (mask_up_to words n) (node_at words n) m is in
      let joined : bit_or (bit s.bits b) (bit (bits_of_node s.last) b) ≡ 1 = sym (bit_or_lem s.bits (bits_of_node s.last) b) ∙ ap (λ (k : ℕ). bit k b) s.joins ∙ e in
      ⊎_elim
      (λ old. later n (set_tested n s.bits s.gave old))
      (λ new. here n s.last s.reads new)
      (or_digit (bit s.bits b) (bit (bits_of_node s.last) b) (bit_small s.bits b) joined)

  there : (x : Node) (t : Split) → x ≡ node.Split t → includes t.property b ≡ true → bit (bits_of_node x) b ≡ 1
  there x t is e = rw (is, bits_of_property t.property b h, e)

  pub tested_set : (n m : ℕ) → mask_up_to words n ≡ gives m → Tested words n b → bit m b ≡ 1
  tested_set zero m is t = absurd (omega (arith, t.early))
  tested_set (suc n) m is t =
      let s = more (mask_up_to words n) (node_at words n) m is in
      rw (← s.joins, bit_or_lem s.bits (bits_of_node s.last) b)
      (digit_or (bit s.bits b) (bit (bits_of_node s.last) b) (bit_small s.bits b) (bit_small (bits_of_node s.last) b)
      (by s (dec_lt t.place n) (λ t. tested_set n s.bits s.gave t)))
    where
      by : (s : More (mask_up_to words n) (node_at words n) m) → Dec (t.place < n) → (Tested words n b → bit s.bits b ≡ 1)
          → (bit s.bits b ≡ 1) ⊎ (bit (bits_of_node s.last) b ≡ 1)
      by s (yes lower) before =
          inl (before (record { place = t.place; early = lower; split = t.split; is = t.is; sets = t.sets }))
      by s (no other) before =
          let at : t.place ≡ n = omega (arith, t.early, other) in
          inr (there s.last t.split (same_given (sym s.reads ∙ (rw at at t.is))) t.sets)

-- the mask that is answered: over all nodes of the list
by_count : (words : List ℤ) (o : Outcome ℕ) (m : ℕ) → mask_by words o ≡ gives m → (n : ℕ) × (o ≡ gives n) × (mask_up_to words n ≡ gives m)
by_count words (gives n) m e = (n, refl, e)
by_count words (refuses number details) m e = absurd (no_refusal e)

pub mask_bits : (words : List ℤ) (m b : ℕ) → mask_of words ≡ gives m → b < 32
    → (bit m b ≡ 1 → Tested words (length words / 5) b) × (Tested words (length words / 5) b → bit m b ≡ 1)
mask_bits words m b e h =
    let (n, is, gave) = by_count words (counted words) m e in
    let all : length words / 5 ≡ n = omega (arith, (counted_fits words n is).0) in
    (λ set. rw all (set_tested words b h n m gave set), λ t. tested_set words b h n m gave (rw all at t))
