-- A sound list is a tree: the root is no split's child, every other place is the child of one split, on one side, and lies at one depth.
use lib.IntN.{ℤ}
use mathlib.Core.Bool.{Bool, true, false}
use mathlib.Core.List.{List}
use mathlib.Core.Logic.{◌⊎◌, inl, inr, ⊎_elim}
use mathlib.Core.Path.{◌≡◌, refl, ap, sym, ◌∙◌}
use native.Mathlib.Decide.{dec_lt, ℕ_discrete}
use native.Mathlib.Omega.{arith}
use Prim.Native.Nat.{ℕ, zero, suc, ◌+◌, ◌-◌, ◌*◌, ◌/◌, ◌<◌}
use Rattle.integer.specs.Order.{if}
use Rattle.nodes.specs.Nodes.{node_at}
use Rattle.nodes.specs.declared.Node.{Node}
use Rattle.nodes.specs.declared.Node.TheVariants as node
use Rattle.nodes.specs.declared.Split.{Split}
use Rattle.refusal.specs.Paper.{Outcome, gives, refuses}
use Rattle.validation.specs.Reach.{SplitAt, LiesAt, root, left, right}
use Rattle.validation.specs.Shape.{splits_in, splits_before, shape_of}
use Rattle.validation.proofs.Sound.{counted_in, more_places, children, inside, whole_count}

-- ---- the split of each number

-- the split number j, among the first m places
record Numbered (words : List ℤ) (j m : ℕ) : Type 0 where
  place : ℕ
  split : Split
  before : place < m
  there : SplitAt words place split
  number : splits_before words place ≡ j

module _ (words : List ℤ) where
  further : {j m : ℕ} → Numbered words j m → Numbered words j (suc m)
  further it = record { place = it.place; split = it.split; before = omega (arith, it.before); there = it.there; number = it.number }

  at_the_end : (j m : ℕ) (o : Outcome Node) → node_at words m ≡ o → j < splits_before words m + splits_in o
      → (j < splits_before words m → Numbered words j m) → Numbered words j (suc m)
  at_the_end j m (gives (node.Leaf l)) is h before = further (before (omega arith))
  at_the_end j m (refuses number details) is h before = further (before (omega arith))
  at_the_end j m (gives (node.Split s)) is h before = last (dec_lt j (splits_before words m))
    where
      last : Dec (j < splits_before words m) → Numbered words j (suc m)
      last (yes l) = further (before l)
      last (no l) = record { place = m; split = s; before = omega arith; there = is; number = omega arith }

  numbered : (j m : ℕ) → j < splits_before words m → Numbered words j m
  unfolding splits_before
  numbered j zero h = absurd (omega arith)
  numbered j (suc m) h = at_the_end j m (node_at words m) refl h (numbered j m)

  -- later splits have greater numbers
  greater : {p q : ℕ} {s : Split} → SplitAt words p s → p < q → splits_before words p < splits_before words q
  greater {p} {q} split h = omega (arith, counted_in words p split, more_places words (suc p) q h)

  one_place : {p q : ℕ} {s t : Split} → SplitAt words p s → SplitAt words q t → splits_before words p ≡ splits_before words q → p ≡ q
  one_place {p} {q} at_p at_q same = by_order (dec_lt p q) (dec_lt q p)
    where
      by_order : Dec (p < q) → Dec (q < p) → p ≡ q
      by_order (yes l) d = absurd (omega (arith, greater at_p l))
      by_order (no l) (yes m) = absurd (omega (arith, greater at_q m))
      by_order (no l) (no m) = omega arith

-- ---- parents

-- a place is one of the children of a split
abbrev pub Child : Split → ℕ → Type 0
Child s c = (s.left ≡ c) ⊎ (s.right ≡ c)

-- the split at a place before c of which c is a child
pub record Parent (words : List ℤ) (c : ℕ) : Type 0 where
  pub place : ℕ
  pub split : Split
  pub before : place < c
  pub there : SplitAt words place split
  pub child : Child split c

-- how a place comes to lie at a depth: as the root, or below the split at a place one depth higher
pub record Under (words : List ℤ) (d c : ℕ) : Type 0 where
  pub place : ℕ
  pub depth : ℕ
  pub split : Split
  pub lies : LiesAt words depth place
  pub there : SplitAt words place split
  pub deeper : d ≡ suc depth
  pub child : Child split c

module _ (words : List ℤ) where
  pub lies_by : {d c : ℕ} → LiesAt words d c → ((d ≡ 0) × (c ≡ 0)) ⊎ Under words d c
  lies_by root = inl (refl, refl)
  lies_by (left lies split) = inr (record { place = _; depth = _; split = _; lies = lies; there = split; deeper = refl; child = inl refl })
  lies_by (right lies split) = inr (record { place = _; depth = _; split = _; lies = lies; there = split; deeper = refl; child = inr refl })

module _ (words : List ℤ) (n : ℕ) (sound : shape_of words n ≡ gives tt) (some : 0 < n) where
  -- every place but the root is a child
  pub parent : (c : ℕ) → 0 < c → c < n → Parent words c
  parent c h k = of (numbered words ((c - 1) / 2) n (omega (arith, whole_count words n sound some)))
    where
      of : Numbered words ((c - 1) / 2) n → Parent words c
      of it =
          let are = children words n sound some it.place it.before it.there in
          let after = inside words n sound some it.place it.before it.there in
          let at_left : Dec (it.split.left ≡ c) = ℕ_discrete _ _ in
          record {
            place = it.place;
            split = it.split;
            before = omega (arith, are, after, it.number);
            there = it.there;
            child = elim at_left [ yes e ↦ inl e | no f ↦ inr (omega (arith, are, it.number)) ];
          }

  -- and of one split only
  pub one_parent : {p q c : ℕ} {s t : Split} → p < n → q < n → SplitAt words p s → SplitAt words q t → Child s c → Child t c → p ≡ q
  one_parent {p} {q} {c} {s} {t} h k at_p at_q one two = one_place words at_p at_q (numbers one two)
    where
      ps : (s.left ≡ 2 * splits_before words p + 1) × (s.right ≡ 2 * splits_before words p + 2)
      ps = children words n sound some p h at_p

      qs : (t.left ≡ 2 * splits_before words q + 1) × (t.right ≡ 2 * splits_before words q + 2)
      qs = children words n sound some q k at_q

      numbers : Child s c → Child t c → splits_before words p ≡ splits_before words q
      numbers (inl e) (inl f) = omega (arith, ps, qs)
      numbers (inl e) (inr f) = omega (arith, ps, qs)
      numbers (inr e) (inl f) = omega (arith, ps, qs)
      numbers (inr e) (inr f) = omega (arith, ps, qs)

  -- on one side only: left children have odd places, right ones even places
  pub one_side : {p q : ℕ} {s t : Split} → p < n → q < n → SplitAt words p s → SplitAt words q t → s.left ≡ t.right → ⊥
  one_side {p} {q} h k at_p at_q same = omega (arith, children words n sound some p h at_p, children words n sound some q k at_q)

  -- so that a child says which split it is of, and on which side
  pub one_way : {p q : ℕ} {s t : Split} (a b : Bool) → p < n → q < n → SplitAt words p s → SplitAt words q t
      → if a s.left s.right ≡ if b t.left t.right → (p ≡ q) × (a ≡ b)
  one_way true true h k at_p at_q e = (one_parent h k at_p at_q (inl e) (inl refl), refl)
  one_way true false h k at_p at_q e = absurd (one_side h k at_p at_q e)
  one_way false true h k at_p at_q e = absurd (one_side k h at_q at_p (sym e))
  one_way false false h k at_p at_q e = (one_parent h k at_p at_q (inr e) (inr refl), refl)

  -- the root is no split's child
  pub root_is_no_child : {p : ℕ} {s : Split} → p < n → SplitAt words p s → Child s 0 → ⊥
  root_is_no_child {p} h split (inl e) = omega (arith, children words n sound some p h split)
  root_is_no_child {p} h split (inr e) = omega (arith, children words n sound some p h split)

  -- ---- depths

  -- what lies somewhere is a place of the list
  pub lies_inside : {d c : ℕ} → LiesAt words d c → c < n
  lies_inside root = some
  lies_inside (left {place = p} lies split) = (inside words n sound some p (lies_inside lies) split).1
  lies_inside (right {place = p} lies split) = (inside words n sound some p (lies_inside lies) split).2

  below : {d p c : ℕ} {s : Split} → LiesAt words d p → SplitAt words p s → Child s c → LiesAt words (suc d) c
  below lies split (inl e) = rw e at (left lies split)
  below lies split (inr e) = rw e at (right lies split)

  depth_within : (bound c : ℕ) → c < bound → c < n → (d : ℕ) × LiesAt words d c
  depth_within zero c h k = absurd (omega arith)
  depth_within (suc bound) zero h k = (0, root)
  depth_within (suc bound) (suc c) h k =
      let above = parent (suc c) (omega arith) k in
      let there = depth_within bound above.place (omega (arith, above.before)) (omega (arith, above.before)) in
      (suc there.0, below there.1 above.there above.child)

  -- every place lies at a depth
  pub depth_there : (c : ℕ) → c < n → (d : ℕ) × LiesAt words d c
  depth_there c h = depth_within (suc c) c (omega arith) h

  -- a child is one deeper than its parent
  pub child_depth : {d p c : ℕ} {s : Split} → p < n → SplitAt words p s → Child s c → LiesAt words d c → (e : ℕ) × (d ≡ suc e) × LiesAt words e p
  child_depth {d} {p} {c} {s} h split child lies = by (lies_by words lies)
    where
      by : ((d ≡ 0) × (c ≡ 0)) ⊎ Under words d c → (e : ℕ) × (d ≡ suc e) × LiesAt words e p
      by (inl at_root) = absurd (root_is_no_child h split (rw at_root.1 at child))
      by (inr it) =
          let same : it.place ≡ p = one_parent (lies_inside it.lies) h it.there split it.child child in
          (it.depth, it.deeper, rw same at it.lies)

  at_root : {d : ℕ} → LiesAt words d 0 → d ≡ 0
  at_root lies = ⊎_elim (λ it. it.0) (λ it. absurd (root_is_no_child (lies_inside it.lies) it.there it.child)) (lies_by words lies)

  -- and at one only
  pub one_depth : {d e c : ℕ} → LiesAt words d c → LiesAt words e c → d ≡ e
  one_depth root other = sym (at_root other)
  one_depth (left lies split) other =
      let above = child_depth (lies_inside lies) split (inl refl) other in
      ap suc (one_depth lies above.2) ∙ sym above.1
  one_depth (right lies split) other =
      let above = child_depth (lies_inside lies) split (inr refl) other in
      ap suc (one_depth lies above.2) ∙ sym above.1
