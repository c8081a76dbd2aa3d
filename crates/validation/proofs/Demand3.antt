-- Demand 3 of document 01: of the sound lists, validation accepts exactly those in which no leaf lies deeper than 2,048 and some cells
-- lead the walk to each leaf.
use lib.IntN.{ℤ, pos, ◌+ℤ◌}
use lib.ListN.{length, get_or-eq_default}
use lib.Signed.{lt_z}
use mathlib.Core.Bool.{Bool, true, false}
use mathlib.Core.List.{List}
use mathlib.Core.Path.{◌≡◌, refl}
use mir.Syntax.{w32}
use mir.Val.{SFits}
use native.Mathlib.Decide.{dec_lt}
use native.Mathlib.Omega.{arith}
use Prim.Native.Nat.{ℕ, zero, suc, ◌+◌, ◌*◌, ◌≤◌, ◌<◌}
use Rattle.integer.proofs.Parts.{less, not_less, is_less, is_not_less}
use Rattle.integer.specs.Order.{if}
use Rattle.nodes.proofs.Read.{property_small}
use Rattle.nodes.specs.Nodes.{node_at, then}
use Rattle.nodes.specs.declared.Node.{Node}
use Rattle.nodes.specs.declared.Node.TheVariants as node
use Rattle.nodes.specs.declared.Split.{Split}
use Rattle.refusal.proofs.Outcomes.{no_refusal}
use Rattle.refusal.specs.Paper.{Outcome, gives, refuses}
use Rattle.validation.specs.Reach.{SplitAt, LiesAt, root, left, right, Walks, start, step, Cells32, Reached, EachLeafReached}
use Rattle.validation.specs.Shape.{shape_of}
use Rattle.validation.specs.Visit.{low, high, all_ranges, left_of, right_of, empty_side, visit, levels}
use Rattle.validation.proofs.Sound.{both_given, node_there, inside}
use Rattle.validation.proofs.Tree.{lies_inside, depth_there, one_depth}
use Rattle.validation.proofs.Walk.{walk_lies, sent, leaf_below}
use Rattle.validation.proofs.Ranges.{Within, Usable, Narrowed, narrowed_left, narrowed_right, into, lies_between, out_of, usable, value_there, next_there, next_at_most, below_next, all_usable, all_within}

-- ---- accepted, so reached

-- what an accepted visit of a split says
went_on : (test : Bool) (number : ℕ) (details : List ℤ) (one two : Outcome Unit) → if test (refuses number details) (then one two) ≡ gives tt
    → (test ≡ false) × (one ≡ gives tt) × (two ≡ gives tt)
went_on true number details one two e = absurd (no_refusal e)
went_on false number details one two e = let both = both_given one two e in (refl, both.0, both.1)

module _ (words : List ℤ) where
  -- the place is accepted with some ranges, and whatever cells lie within them walk to it
  record Accepted (d place : ℕ) : Type 0 where
    more : ℕ
    ranges : List ℤ
    budget : suc more + d ≡ 2049
    visited : visit words (suc more) place ranges ≡ gives tt
    fit : Usable ranges
    leads : (cells : ℕ → ℤ) → Within cells ranges → Walks words cells d place

  -- with no levels left a visit is refused
  with_levels : {d place : ℕ} (more : ℕ) (ranges : List ℤ) → more + d ≡ 2049 → visit words more place ranges ≡ gives tt → Usable ranges
      → ((cells : ℕ → ℤ) → Within cells ranges → Walks words cells d place) → Accepted d place
  unfolding visit
  with_levels zero ranges budget visited fit leads = absurd (no_refusal visited)
  with_levels (suc more) ranges budget visited fit leads =
      record { more = more; ranges = ranges; budget = budget; visited = visited; fit = fit; leads = leads }

  module _ {d p : ℕ} {s : Split} (split : SplitAt words p s) (at : Accepted d p) where
    parts : (empty_side s at.ranges ≡ false)
        × (visit words at.more s.left (left_of s at.ranges) ≡ gives tt)
        × (visit words at.more s.right (right_of s at.ranges) ≡ gives tt)
    unfolding visit
    parts = went_on (empty_side s at.ranges) _ _ _ _ (rw split at at.visited)

    narrow_left : Narrowed at.ranges (left_of s at.ranges) s.property (s.value +ℤ pos 1) (high at.ranges s.property)
    narrow_left = narrowed_left s at.ranges at.fit.size (property_small _ _ split)

    narrow_right : Narrowed at.ranges (right_of s at.ranges) s.property (low at.ranges s.property) s.value
    narrow_right = narrowed_right s at.ranges at.fit.size (property_small _ _ split)

    accepted_left : Accepted (suc d) s.left
    accepted_left =
        let next = next_there s at.ranges parts.0 in
        with_levels at.more (left_of s at.ranges) (omega (arith, at.budget)) parts.1
        (usable narrow_left at.fit next.0 next.1 (omega arith))
        (λ cells within.
        let test : lt_z s.value (cells s.property) ≡ true = below_next s.value (cells s.property) (lies_between narrow_left within).0 in
        rw test at (step (at.leads cells (out_of narrow_left next.0 (omega arith) within)) split))

    accepted_right : Accepted (suc d) s.right
    accepted_right =
        let value = value_there s at.ranges parts.0 in
        with_levels at.more (right_of s at.ranges) (omega (arith, at.budget)) parts.2
        (usable narrow_right at.fit (omega arith) value.0 value.1)
        (λ cells within.
        let test : lt_z s.value (cells s.property) ≡ false = is_not_less s.value (cells s.property) (lies_between narrow_right within).1 in
        rw test at (step (at.leads cells (out_of narrow_right (omega arith) value.1 within)) split))

  module _ (accepted : visit words levels 0 all_ranges ≡ gives tt) where
    -- so is every place of the tree, down from the root
    accepted_at : {d place : ℕ} → LiesAt words d place → Accepted d place
    accepted_at root = with_levels 2049 all_ranges refl accepted all_usable (λ cells within. start)
    accepted_at (left lies split) = accepted_left split (accepted_at lies)
    accepted_at (right lies split) = accepted_right split (accepted_at lies)

  -- the lowest value of each range; past the 256th it is 0
  lowest32 : (ranges : List ℤ) → Usable ranges → (p : ℕ) → Dec (p < 256) → SFits w32 (low ranges p)
  lowest32 ranges fit p (yes h) = fit.low32 p h
  lowest32 ranges fit p (no h) =
      let past : length ranges ≤ 2 * p = omega (arith, fit.size) in
      rw (get_or-eq_default ranges (pos 0) past) (record { sfits = omega arith })

  reaches : {d place : ℕ} → Accepted d place → Reached words place
  reaches {d} it = record {
    cells = low it.ranges;
    are32 = λ p. lowest32 it.ranges it.fit p (dec_lt p 256);
    steps = d;
    walks = it.leads (low it.ranges) (record { above = λ p h. omega arith; below = it.fit.some });
  }

  -- whatever 32-bit cells walk to the place lie within the ranges
  abbrev Hold : ℕ → ℕ → List ℤ → Type 0
  Hold d place ranges = (cells : ℕ → ℤ) → Cells32 words cells → Walks words cells d place → Within cells ranges

module _ (words : List ℤ) (n : ℕ) (sound : shape_of words n ≡ gives tt) (some : 0 < n) where
  accepted_reached : visit words levels 0 all_ranges ≡ gives tt → EachLeafReached words n
  accepted_reached accepted = record {
    shallow = λ h leaf lies. omega (arith, (accepted_at words accepted lies).budget);
    reached = λ h leaf. reaches words (accepted_at words accepted (depth_there words n sound some _ h).1);
  }

  -- ---- reached, so accepted

  -- cells that walk to a split in d steps and take this side there
  record Takes (d place : ℕ) (s : Split) (side : Bool) : Type 0 where
    cells : ℕ → ℤ
    are32 : Cells32 words cells
    walk : Walks words cells d place
    test : lt_z s.value (cells s.property) ≡ side

  module _ (all : EachLeafReached words n) where
    module _ {d p : ℕ} {s : Split} (lies : LiesAt words d p) (split : SplitAt words p s) where
      p_inside : p < n
      p_inside = lies_inside words n sound some lies

      child_inside : (side : Bool) → if side s.left s.right < n
      child_inside true = (inside words n sound some p p_inside split).1
      child_inside false = (inside words n sound some p p_inside split).2

      -- the walk to a leaf below the child comes through both
      takes : (side : Bool) → Takes d p s side
      takes side =
          let below = leaf_below words n sound some (if side s.left s.right) (child_inside side) in
          let reached = all.reached below.before below.there in
          let came = sent words n sound some side p_inside split (below.through reached.walks).1 in
          let same : came.steps ≡ d = one_depth words n sound some (walk_lies words came.walk) lies in
          record { cells = reached.cells; are32 = reached.are32; walk = rw same at came.walk; test = came.test }

      module _ {ranges : List ℤ} (size : length ranges ≡ 512) (hold : Hold words d p ranges) where
        small : s.property < 256
        small = property_small _ _ split

        both_sides : empty_side s ranges ≡ false
        both_sides =
            let one = takes true in
            let other = takes false in
            let under = (hold one.cells one.are32 one.walk).below s.property small in
            let over = (hold other.cells other.are32 other.walk).above s.property small in
            let to_left : lt_z s.value (high ranges s.property) ≡ true =
            is_less s.value (high ranges s.property) (omega (arith, less s.value (one.cells s.property) one.test, under)) in
            let to_right : lt_z s.value (low ranges s.property) ≡ false =
            is_not_less s.value (low ranges s.property) (omega (arith, not_less s.value (other.cells s.property) other.test, over)) in
            rw (to_left, to_right)

        came : {cells : ℕ → ℤ} (side : Bool) → Cells32 words cells → Walks words cells (suc d) (if side s.left s.right)
            → Within cells ranges × (lt_z s.value (cells s.property) ≡ side)
        came {cells} side are32 walk =
            let from = sent words n sound some side p_inside split walk in
            let same : from.steps ≡ d = omega (arith, from.longer) in
            (hold cells are32 (rw same at from.walk), from.test)

        hold_left : Hold words (suc d) s.left (left_of s ranges)
        hold_left cells are32 walk =
            let it = came true are32 walk in
            into (narrowed_left s ranges size small) it.0 (next_at_most s.value (cells s.property) it.1) (it.0.below s.property small)

        hold_right : Hold words (suc d) s.right (right_of s ranges)
        hold_right cells are32 walk =
            let it = came false are32 walk in
            into (narrowed_right s ranges size small) it.0 (it.0.above s.property small) (omega (arith, not_less s.value (cells s.property) it.1))

    -- a leaf below it shows that a place lies no deeper than 2,048
    not_deep : {d p : ℕ} → LiesAt words d p → d ≤ 2048
    not_deep {d} {p} lies =
        let below = leaf_below words n sound some p (lies_inside words n sound some lies) in
        let far = below.deeper d lies in
        omega (arith, far.1, all.shallow below.before below.there far.2)

    by_node : {d p : ℕ} {ranges : List ℤ} (more : ℕ) (node : Node) → node_at words p ≡ gives node
        → LiesAt words d p → length ranges ≡ 512 → Hold words d p ranges
        → ((c : ℕ) (new : List ℤ) → LiesAt words (suc d) c → length new ≡ 512 → Hold words (suc d) c new → visit words more c new ≡ gives tt)
        → visit words (suc more) p ranges ≡ gives tt
    unfolding visit
    by_node more (node.Leaf l) is lies size hold visit_child = rw is
    by_node {p = p} {ranges = ranges} more (node.Split s) is lies size hold visit_child =
        let small = property_small _ _ is in
        rw (
          is,
          both_sides lies is size hold,
          visit_child s.left (left_of s ranges) (left lies is) (narrowed_left s ranges size small).size (hold_left lies is size hold),
          visit_child s.right (right_of s ranges) (right lies is) (narrowed_right s ranges size small).size (hold_right lies is size hold),
        )

    -- by the levels left: with none left the place would lie too deep
    accept : (more d p : ℕ) (ranges : List ℤ) → more + d ≡ 2049 → LiesAt words d p → length ranges ≡ 512 → Hold words d p ranges
        → visit words more p ranges ≡ gives tt
    accept zero d p ranges budget lies size hold = absurd (omega (arith, not_deep lies))
    accept (suc more) d p ranges budget lies size hold =
        let node = node_there words n sound some p (lies_inside words n sound some lies) in
        by_node more node.0 node.1 lies size hold (λ c new deeper same within. accept more (suc d) c new (omega arith) deeper same within)

    reached_accepted : visit words levels 0 all_ranges ≡ gives tt
    reached_accepted = accept 2049 0 0 all_ranges refl root all_usable.size (λ cells are32 walk. all_within are32)

-- demand 3
pub accepted_exactly : (words : List ℤ) (n : ℕ) → shape_of words n ≡ gives tt → 0 < n
    → (visit words levels 0 all_ranges ≡ gives tt → EachLeafReached words n) × (EachLeafReached words n → visit words levels 0 all_ranges ≡ gives tt)
accepted_exactly words n sound some = (accepted_reached words n sound some, reached_accepted words n sound some)
