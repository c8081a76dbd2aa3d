-- What a visit has still to do from a node on, how many nodes that may enter, and what entering a node shows.
use borrow.Author.Tests.{leb-true, eqb-true, leb-false}
use lib.Dec.{leb, eqb}
use lib.IntN.{ℤ, pos}
use lib.ListN.{length}
use mathlib.Core.Bool.{Bool, true, false}
use mathlib.Core.List.{List, [], ◌∷◌}
use mathlib.Core.Path.{◌≡◌, refl, ◌∙◌, ap}
use native.Mathlib.Omega.{arith}
use Prim.Native.Nat.{ℕ, zero, suc, ◌+◌, ◌*◌, ◌-◌, ◌/◌, ◌%◌, ◌≤◌, ◌<◌}
use Rattle.integer.specs.Order.{if}
use Rattle.nodes.proofs.Read.{property_small}
use Rattle.nodes.specs.Nodes.{then, node_at}
use Rattle.nodes.specs.declared.Node.{Node}
use Rattle.nodes.specs.declared.Node.TheVariants as node
use Rattle.nodes.specs.declared.Split.{Split}
use Rattle.nodes.specs.declared.Leaf.{Leaf}
use Rattle.refusal.proofs.Outcomes.{no_refusal}
use Rattle.refusal.specs.Paper.{Outcome, gives, refuses}
use Rattle.validation.specs.Shape.{shape_by, shape_of}
use Rattle.validation.specs.Verdict.{SoundList}
use Rattle.validation.specs.Visit.{low, high, empty_side, enter, visit, entered, entered_by, levels}
use Rattle.validation.specs.Frames.{frame_in, ranges, Step, at_leaf, down, step_of, work_of, entering, entered_work, descended, Framed}
use Rattle.validation.proofs.Pending.{pending, pending_cost, low_held, high_held, sides_held}

-- ---- a sound list: its count of nodes

module _ (words : List ℤ) where
  abbrev pub nodes : ℕ
  nodes = length words / 5

  pub record Sound : Type 0 where
    pub whole : length words ≡ 5 * nodes
    pub few : nodes ≤ 1048575
    pub some : 0 < nodes
    pub shaped : shape_of words nodes ≡ gives tt

  by_tests : (t u : Bool) → eqb (length words % 5) 0 ≡ t → leb nodes 1048575 ≡ u → 0 < length words
      → shape_by words (if t (if u (gives nodes) (refuses 2 (pos 0 ∷ []))) (refuses 1 (pos 0 ∷ []))) ≡ gives tt → Sound
  by_tests true true e f h shaped =
      let even : length words % 5 ≡ 0 = eqb-true _ _ e in
      record { whole = omega (arith, even); few = leb-true _ _ f; some = omega (arith, even); shaped = shaped }
  by_tests true false e f h shaped = absurd (no_refusal shaped)
  by_tests false u e f h shaped = absurd (no_refusal shaped)

  pub sound_list : SoundList words → Sound
  sound_list given = by_tests _ _ refl refl given.1 given.0

-- ---- what is to do, and how many nodes that enters

module _ (words : List ℤ) where
  abbrev pub pending_in : ℕ → List ℤ → Outcome Unit
  pending_in depth work = pending words depth (ranges work) (frame_in work)

  abbrev pub to_do : ℕ → ℕ → List ℤ → Outcome Unit
  to_do place depth work = then (visit words (2049 - depth) place (ranges work)) (pending_in depth work)

  abbrev pub cost_above : ℕ → List ℤ → ℕ
  cost_above depth work = pending_cost words depth (frame_in work)

  abbrev pub cost : ℕ → ℕ → List ℤ → ℕ
  cost place depth work = entered words (2049 - depth) place + cost_above depth work

  -- what the loops keep of the work area
  pub record Above (depth : ℕ) (work : List ℤ) : Type 0 where
    pub deep : depth ≤ 2049
    pub roomy : 10762 ≤ length work
    pub framed : Framed (nodes words) depth work

  pub visit_here : (place depth : ℕ) (held : List ℤ) → depth ≤ 2048
      → visit words (2049 - depth) place held ≡ enter (node_at words place) place held (visit words (2048 - depth))
  unfolding visit
  visit_here place depth held h =
      let is : 2049 - depth ≡ suc (2048 - depth) = omega arith in
      rw is

  pub entered_here : (place depth : ℕ) → depth ≤ 2048 → entered words (2049 - depth) place ≡ entered_by (node_at words place) (entered words (2048 - depth))
  unfolding entered
  entered_here place depth h =
      let is : 2049 - depth ≡ suc (2048 - depth) = omega arith in
      rw is

  too_deep : (place depth : ℕ) (held : List ℤ) → 2048 < depth → visit words (2049 - depth) place held ≡ refuses 6 (pos place ∷ [])
  unfolding visit
  too_deep place depth held h =
      let is : 2049 - depth ≡ 0 = omega arith in
      rw is

  pub entered_one : (levels place : ℕ) → 1 ≤ entered words levels place
  unfolding entered
  entered_one zero place = omega arith
  entered_one (suc levels) place = at_least (node_at words place)
    where
      at_least : (o : Outcome Node) → 1 ≤ entered_by o (entered words levels)
      at_least (refuses number details) = omega arith
      at_least (gives (node.Leaf l)) = omega arith
      at_least (gives (node.Split s)) = omega arith

-- ---- what entering a node shows

module _ (words : List ℤ) (place depth : ℕ) (work : List ℤ) where
  pub data Entry : Outcome Step → List ℤ → Type 0 where
    met_leaf : {l : Leaf} → depth ≤ 2048 → node_at words place ≡ gives (node.Leaf l) → Entry (gives at_leaf) work
    went_down : {s : Split} → depth ≤ 2048 → node_at words place ≡ gives (node.Split s) → empty_side s work ≡ false → Entry (gives (down s.left)) (descended s depth work)
    met_refusal : {number : ℕ} {details : List ℤ} → visit words (2049 - depth) place (ranges work) ≡ refuses number details → Entry (refuses number details) work

  module _ (h : depth ≤ 2048) where
    side_refused : (s : Split) → node_at words place ≡ gives (node.Split s) → empty_side s work ≡ true
        → visit words (2049 - depth) place (ranges work) ≡ refuses 7 (pos place ∷ pos s.property ∷ s.value ∷ low work s.property ∷ high work s.property ∷ [])
    side_refused s is e =
        let small = property_small _ _ is in
        visit_here words place depth (ranges work) h
        ∙ rw (is, sides_held s work small ∙ e, low_held work s.property small, high_held work s.property small)

    of_split : (s : Split) → node_at words place ≡ gives (node.Split s) → (t : Bool) → empty_side s work ≡ t
        → Entry
        (if t (refuses 7 (pos place ∷ pos s.property ∷ s.value ∷ low work s.property ∷ high work s.property ∷ [])) (gives (down s.left)))
        (if t work (descended s depth work))
    of_split s is true e = met_refusal (side_refused s is e)
    of_split s is false e = went_down h is e

  deep : leb depth 2048 ≡ false → Entry (refuses 6 (pos place ∷ [])) work
  deep e = met_refusal (too_deep words place depth (ranges work) (leb-false depth 2048 e))

  leaf_by_lem : {l : Leaf} → node_at words place ≡ gives (node.Leaf l) → (t : Bool) → leb depth 2048 ≡ t → Entry (if t (gives at_leaf) (refuses 6 (pos place ∷ []))) work
  leaf_by_lem is true e = met_leaf (leb-true _ _ e) is
  leaf_by_lem is false e = deep e

  split_by : (s : Split) → node_at words place ≡ gives (node.Split s) → (t : Bool) → leb depth 2048 ≡ t
      → Entry
      (if t
      (if (empty_side s work) (refuses 7 (pos place ∷ pos s.property ∷ s.value ∷ low work s.property ∷ high work s.property ∷ [])) (gives (down s.left)))
      (refuses 6 (pos place ∷ [])))
      (if t (if (empty_side s work) work (descended s depth work)) work)
  split_by s is true e = of_split (leb-true _ _ e) s is (empty_side s work) refl
  split_by s is false e = deep e

  -- of a node that is in form
  entry_of : (n : Node) → node_at words place ≡ gives n → Entry (step_of (gives n) place depth work) (work_of (gives n) depth work)
  entry_of (node.Leaf l) is = leaf_by_lem is (leb depth 2048) refl
  entry_of (node.Split s) is = split_by s is (leb depth 2048) refl

  -- as a call tells it
  pub entry_told : {o : Outcome Step} {w : List ℤ} → (n : Node) × (node_at words place ≡ gives n) → o ≡ entering words place depth work → w ≡ entered_work words place depth work → Entry o w
  entry_told there is_step is_work =
      let is = there.1 in
      let step = is_step ∙ ap (λ (o : Outcome Node). step_of o place depth work) is in
      let after = is_work ∙ ap (λ (o : Outcome Node). work_of o depth work) is in
      rw (step, after) (entry_of there.0 is)
