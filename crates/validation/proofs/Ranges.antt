-- The ranges of a visit: what a split makes of them, and which cells lie within them.
use borrow.Author.Tests.{eq-eqb, ne_eqb, not-false}
use lib.IntN.{ℤ, pos, negsuc, ◌+ℤ◌}
use lib.ListN.{length, length-set}
use lib.Seq.{get_or-set_same, get_or-set_other}
use lib.Signed.{lt_z}
use mathlib.Core.Bool.{Bool, true, false, ◌||◌, not}
use mathlib.Core.List.{List}
use mathlib.Core.Path.{◌≡◌, refl, ◌∙◌}
use mir.Syntax.{w32}
use mir.Val.{SFits}
use native.Mathlib.Decide.{ℕ_discrete}
use native.Mathlib.Omega.{arith}
use Prim.Native.Nat.{ℕ, ◌+◌, ◌*◌, ◌%◌, ◌≤◌, ◌<◌}
use Rattle.integer.proofs.Fill.{tabulate_length, tabulated}
use Rattle.integer.proofs.Parts.{up, down, of_plus, less, not_less, is_less}
use Rattle.nodes.specs.declared.Split.{Split}
use Rattle.validation.specs.Visit.{low, high, widest, all_ranges, left_of, right_of, empty_side}

-- a ≤ b, in natural numbers
abbrev pub AtMost : ℤ → ℤ → Type 0
AtMost a b = up a + down b ≤ up b + down a

pub between_fits : (a z b : ℤ) → SFits w32 a → SFits w32 b → AtMost a z → AtMost z b → SFits w32 z
between_fits a (pos n) (pos b) f g h k = record { sfits = omega (arith, g.sfits) }
between_fits a (pos n) (negsuc b) f g h k = absurd (omega arith)
between_fits (pos a) (negsuc n) b f g h k = absurd (omega arith)
between_fits (negsuc a) (negsuc n) b f g h k = record { sfits = omega (arith, f.sfits) }

-- cells whose first 256 lie within the ranges
pub record Within (cells : ℕ → ℤ) (ranges : List ℤ) : Type 0 where
  pub above : (p : ℕ) → p < 256 → AtMost (low ranges p) (cells p)
  pub below : (p : ℕ) → p < 256 → AtMost (cells p) (high ranges p)

-- ranges of 32-bit values, none of them empty
pub record Usable (ranges : List ℤ) : Type 0 where
  pub size : length ranges ≡ 512
  pub some : (p : ℕ) → p < 256 → AtMost (low ranges p) (high ranges p)
  pub low32 : (p : ℕ) → p < 256 → SFits w32 (low ranges p)
  pub high32 : (p : ℕ) → p < 256 → SFits w32 (high ranges p)

-- ---- ranges of which one was made narrower

pub record Narrowed (ranges new : List ℤ) (property : ℕ) (lo hi : ℤ) : Type 0 where
  pub size : length new ≡ 512
  pub small : property < 256
  pub at_low : low new property ≡ lo
  pub at_high : high new property ≡ hi
  pub low_else : (p : ℕ) → (p ≡ property → ⊥) → low new p ≡ low ranges p
  pub high_else : (p : ℕ) → (p ≡ property → ⊥) → high new p ≡ high ranges p

module _ (s : Split) (ranges : List ℤ) (size : length ranges ≡ 512) (small : s.property < 256) where
  pub narrowed_left : Narrowed ranges (left_of s ranges) s.property (s.value +ℤ pos 1) (high ranges s.property)
  narrowed_left = record {
    size = length-set ranges (2 * s.property) (s.value +ℤ pos 1) ∙ size;
    small = small;
    at_low = get_or-set_same ranges (2 * s.property) (s.value +ℤ pos 1) (pos 0) (omega arith);
    at_high = get_or-set_other ranges (2 * s.property) (2 * s.property + 1) (s.value +ℤ pos 1) (pos 0) (λ e. omega arith);
    low_else = λ p other. get_or-set_other ranges (2 * s.property) (2 * p) (s.value +ℤ pos 1) (pos 0) (λ e. other (omega arith));
    high_else = λ p other. get_or-set_other ranges (2 * s.property) (2 * p + 1) (s.value +ℤ pos 1) (pos 0) (λ e. omega arith);
  }

  pub narrowed_right : Narrowed ranges (right_of s ranges) s.property (low ranges s.property) s.value
  narrowed_right = record {
    size = length-set ranges (2 * s.property + 1) s.value ∙ size;
    small = small;
    at_low = get_or-set_other ranges (2 * s.property + 1) (2 * s.property) s.value (pos 0) (λ e. omega arith);
    at_high = get_or-set_same ranges (2 * s.property + 1) s.value (pos 0) (omega arith);
    low_else = λ p other. get_or-set_other ranges (2 * s.property + 1) (2 * p) s.value (pos 0) (λ e. omega arith);
    high_else = λ p other. get_or-set_other ranges (2 * s.property + 1) (2 * p + 1) s.value (pos 0) (λ e. other (omega arith));
  }

module _ {ranges new : List ℤ} {property : ℕ} {lo hi : ℤ} (narrowed : Narrowed ranges new property lo hi) where
  -- what holds of the new ends, and of the old ends everywhere else, holds of the new ranges
  each : (P : ℕ → ℤ → ℤ → Type 0) → P property lo hi
      → ((p : ℕ) → p < 256 → P p (low ranges p) (high ranges p)) → (p : ℕ) → p < 256 → P p (low new p) (high new p)
  each P here there p h = by (ℕ_discrete p property)
    where
      by : Dec (p ≡ property) → P p (low new p) (high new p)
      by (yes e) = rw (e, narrowed.at_low, narrowed.at_high) here
      by (no other) = rw (narrowed.low_else p other, narrowed.high_else p other) (there p h)

  pub into : {cells : ℕ → ℤ} → Within cells ranges → AtMost lo (cells property) → AtMost (cells property) hi → Within cells new
  into {cells} within a b = record {
    above = each (λ p l h. AtMost l (cells p)) a within.above;
    below = each (λ p l h. AtMost (cells p) h) b within.below;
  }

  pub lies_between : {cells : ℕ → ℤ} → Within cells new → AtMost lo (cells property) × AtMost (cells property) hi
  lies_between within = (rw narrowed.at_low at (within.above property narrowed.small), rw narrowed.at_high at (within.below property narrowed.small))

  pub out_of : {cells : ℕ → ℤ} → AtMost (low ranges property) lo → AtMost hi (high ranges property) → Within cells new → Within cells ranges
  out_of {cells} a b within = record {
    above = λ p h. by_low p h (ℕ_discrete p property);
    below = λ p h. by_high p h (ℕ_discrete p property);
  }
    where
      by_low : (p : ℕ) → p < 256 → Dec (p ≡ property) → AtMost (low ranges p) (cells p)
      by_low p h (yes e) = rw e (omega (arith, a, (lies_between within).0))
      by_low p h (no other) = rw (narrowed.low_else p other) at (within.above p h)

      by_high : (p : ℕ) → p < 256 → Dec (p ≡ property) → AtMost (cells p) (high ranges p)
      by_high p h (yes e) = rw e (omega (arith, b, (lies_between within).1))
      by_high p h (no other) = rw (narrowed.high_else p other) at (within.below p h)

  pub usable : Usable ranges → AtMost (low ranges property) lo → AtMost lo hi → AtMost hi (high ranges property) → Usable new
  usable was a b c =
      let low_fits = was.low32 property narrowed.small in
      let high_fits = was.high32 property narrowed.small in
      record {
        size = narrowed.size;
        some = each (λ p l h. AtMost l h) b was.some;
        low32 = each (λ p l h. SFits w32 l) (between_fits _ lo _ low_fits high_fits a (omega arith)) was.low32;
        high32 = each (λ p l h. SFits w32 h) (between_fits _ hi _ low_fits high_fits (omega arith) c) was.high32;
      }

-- ---- a split both sides of which hold a value

or_left : (a b : Bool) → (a || b) ≡ false → a ≡ false
or_left true b e = e
or_left false b e = refl

or_right : (a b : Bool) → (a || b) ≡ false → b ≡ false
or_right true b e = cc
or_right false b e = e

module _ (s : Split) (ranges : List ℤ) (open_sides : empty_side s ranges ≡ false) where
  under_high : lt_z s.value (high ranges s.property) ≡ true
  under_high = not-false _ (or_left (not (lt_z s.value (high ranges s.property))) (lt_z s.value (low ranges s.property)) open_sides)

  not_under_low : lt_z s.value (low ranges s.property) ≡ false
  not_under_low = or_right (not (lt_z s.value (high ranges s.property))) (lt_z s.value (low ranges s.property)) open_sides

  -- low ≤ value < high, and so low ≤ value+1 ≤ high
  pub value_there : AtMost (low ranges s.property) s.value × AtMost s.value (high ranges s.property)
  value_there = (omega (arith, not_less s.value (low ranges s.property) not_under_low), omega (arith, less s.value (high ranges s.property) under_high))

  pub next_there : AtMost (low ranges s.property) (s.value +ℤ pos 1) × AtMost (s.value +ℤ pos 1) (high ranges s.property)
  next_there = (omega (arith, of_plus s.value (pos 1), value_there), omega (arith, of_plus s.value (pos 1), less s.value (high ranges s.property) under_high))

-- value+1 ≤ z says the same as value < z
pub next_at_most : (value z : ℤ) → lt_z value z ≡ true → AtMost (value +ℤ pos 1) z
next_at_most value z e = omega (arith, of_plus value (pos 1), less value z e)

pub below_next : (value z : ℤ) → AtMost (value +ℤ pos 1) z → lt_z value z ≡ true
below_next value z h = is_less value z (omega (arith, of_plus value (pos 1)))

-- ---- the widest ranges

least : (p : ℕ) → p < 256 → low all_ranges p ≡ negsuc 2147483647
unfolding all_ranges
least p h =
    let even : (2 * p) % 2 ≡ 0 = omega arith in
    tabulated widest 512 (2 * p) (pos 0) (omega arith) ∙ rw (eq-eqb _ 0 even)

greatest : (p : ℕ) → p < 256 → high all_ranges p ≡ pos 2147483647
unfolding all_ranges
greatest p h =
    let odd : (2 * p + 1) % 2 ≡ 0 → ⊥ = λ e. omega arith in
    tabulated widest 512 (2 * p + 1) (pos 0) (omega arith) ∙ rw (ne_eqb _ 0 odd)

pub all_usable : Usable all_ranges
unfolding all_ranges
all_usable = record {
  size = tabulate_length widest 512;
  some = λ p h. rw (least p h, greatest p h) (omega arith);
  low32 = λ p h. rw (least p h) (record { sfits = omega arith });
  high32 = λ p h. rw (greatest p h) (record { sfits = omega arith });
}

not_under_least : (z : ℤ) → SFits w32 z → AtMost (negsuc 2147483647) z
not_under_least (pos n) f = omega (arith, f.sfits)
not_under_least (negsuc n) f = omega (arith, f.sfits)

not_over_greatest : (z : ℤ) → SFits w32 z → AtMost z (pos 2147483647)
not_over_greatest (pos n) f = omega (arith, f.sfits)
not_over_greatest (negsuc n) f = omega (arith, f.sfits)

pub all_within : {cells : ℕ → ℤ} → ((p : ℕ) → SFits w32 (cells p)) → Within cells all_ranges
all_within {cells} fits = record {
  above = λ p h. rw (least p h) (not_under_least (cells p) (fits p));
  below = λ p h. rw (greatest p h) (not_over_greatest (cells p) (fits p));
}
