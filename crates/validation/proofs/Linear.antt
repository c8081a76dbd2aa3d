-- A visit of a sound list enters each node at most once, so no more than the list has. With `whole p` nodes at and below p, and the nodes
-- taken one by one from the front, those at hand after k of them are k .. 2·splits: a split is taken away and its two children, the next two
-- places, come to hand. So at hand, with all below them, are never more than the n - k that are left.
use lib.IntN.{ℤ}
use mathlib.Core.List.{List}
use mathlib.Core.Path.{◌≡◌, refl, ap}
use native.Mathlib.Omega.{arith}
use Prim.Native.Nat.{ℕ, zero, suc, ◌+◌, ◌-◌, ◌*◌, ◌≤◌, ◌<◌}
use Rattle.nodes.specs.Nodes.{node_at}
use Rattle.nodes.specs.declared.Leaf.{Leaf}
use Rattle.nodes.specs.declared.Node.{Node}
use Rattle.nodes.specs.declared.Node.TheVariants as node
use Rattle.nodes.specs.declared.Split.{Split}
use Rattle.refusal.specs.Paper.{Outcome, gives, refuses}
use Rattle.validation.specs.Reach.{SplitAt, LeafAt}
use Rattle.validation.specs.Shape.{splits_before, shape_of}
use Rattle.validation.specs.Visit.{entered_by, entered}
use Rattle.validation.proofs.Sound.{counted_in, node_there, children, whole_count, inside}

-- ---- more levels, more nodes

by_children : (o : Outcome Node) (f g : ℕ → ℕ) → ((s : Split) → o ≡ gives (node.Split s) → (f s.left ≤ g s.left) × (f s.right ≤ g s.right))
    → entered_by o f ≤ entered_by o g
by_children (refuses number details) f g below = omega arith
by_children (gives (node.Leaf l)) f g below = omega arith
by_children (gives (node.Split s)) f g below = omega (arith, below s refl)

itself : (o : Outcome Node) (f : ℕ → ℕ) → 1 ≤ entered_by o f
itself (refuses number details) f = omega arith
itself (gives (node.Leaf l)) f = omega arith
itself (gives (node.Split s)) f = omega arith

module _ (words : List ℤ) where
  at_least_one : (m p : ℕ) → 1 ≤ entered words m p
  unfolding entered
  at_least_one zero p = omega arith
  at_least_one (suc m) p = itself (node_at words p) (entered words m)

  more_levels : (m k p : ℕ) → m ≤ k → entered words m p ≤ entered words k p
  unfolding entered
  more_levels zero k p h = at_least_one k p
  more_levels (suc m) zero p h = absurd (omega arith)
  more_levels (suc m) (suc k) p h =
      by_children (node_at words p) (entered words m) (entered words k)
      (λ s is. (more_levels m k s.left (omega arith), more_levels m k s.right (omega arith)))

  not_counted : (k : ℕ) {l : Leaf} → LeafAt words k l → splits_before words (suc k) ≡ splits_before words k
  unfolding splits_before
  not_counted k leaf = rw leaf (omega arith)

-- ---- f k + f (k+1) + .., c of them

sum : (ℕ → ℕ) → ℕ → ℕ → ℕ
sum f k zero = 0
sum f k (suc c) = f k + sum f (suc k) c

sum_more : (f : ℕ → ℕ) (k c : ℕ) → sum f k (suc c) ≡ sum f k c + f (k + c)
unfolding sum
sum_more f k zero = let same : k + 0 ≡ k = omega arith in rw same (omega arith)
sum_more f k (suc c) =
    let same : k + suc c ≡ suc k + c = omega arith in
    rw same (omega (arith, sum_more f (suc k) c))

module _ (words : List ℤ) (n : ℕ) (sound : shape_of words n ≡ gives tt) (some : 0 < n) where
  -- levels enough for all that lies below: children lie later
  whole : ℕ → ℕ
  whole p = entered words (n - p) p

  levels_left : (p : ℕ) → p < n → n - p ≡ suc (n - suc p)
  levels_left p h = omega arith

  enough : (m p : ℕ) → p < n → entered words m p ≤ whole p
  unfolding whole entered
  enough zero p h = at_least_one words (n - p) p
  enough (suc m) p h =
      rw (levels_left p h)
      (by_children (node_at words p) (entered words m) (entered words (n - suc p))
      (λ s is.
      let child = inside words n sound some p h is in (
        omega (arith, enough m s.left child.1, more_levels words (n - s.left) (n - suc p) s.left (omega (arith, child.0))),
        omega (arith, enough m s.right child.2, more_levels words (n - s.right) (n - suc p) s.right (omega (arith, child.0, children words n sound some p h is))),
      )))

  -- a node is itself and its children with all below them
  whole_is : (p : ℕ) → p < n → whole p ≡ entered_by (node_at words p) (entered words (n - suc p))
  unfolding whole entered
  whole_is p h = rw (levels_left p h)

  whole_leaf : (p : ℕ) {l : Leaf} → p < n → LeafAt words p l → whole p ≡ 1
  whole_leaf p h leaf = rw leaf at (whole_is p h)

  whole_split : (p : ℕ) {s : Split} → p < n → SplitAt words p s → whole p ≤ 1 + (whole s.left + whole s.right)
  whole_split p {s} h split =
      let child = inside words n sound some p h split in
      omega (arith, rw split at (whole_is p h), enough (n - suc p) s.left child.1, enough (n - suc p) s.right child.2)

  -- what is at hand when k nodes are taken, c places from k on, is no more than what is left
  at_hand : (left k c : ℕ) → k + left ≡ n → k + c ≡ 2 * splits_before words k + 1 → sum whole k c ≤ left
  unfolding sum
  at_hand zero k zero e f = omega arith
  at_hand (suc left) k zero e f = omega arith
  at_hand zero k (suc c) e f =
      let all : k ≡ n = omega arith in
      absurd (omega (arith, whole_count words n sound some, ap (splits_before words) all))
  at_hand (suc left) k (suc c) e f = taken (node_there words n sound some k inner).0 (node_there words n sound some k inner).1 (at_hand left (suc k))
    where
      inner : k < n
      inner = omega arith

      taken : (node : Node) → node_at words k ≡ gives node
          → ((c : ℕ) → suc k + left ≡ n → suc k + c ≡ 2 * splits_before words (suc k) + 1 → sum whole (suc k) c ≤ left)
          → whole k + sum whole (suc k) c ≤ suc left
      taken (node.Leaf l) is next =
          omega (arith, whole_leaf k inner is, next c (omega arith) (omega (arith, not_counted words k is)))
      taken (node.Split s) is next =
          let are = children words n sound some k inner is in
          let at_left : suc k + c ≡ s.left = omega arith in
          let at_right : suc k + suc c ≡ s.right = omega arith in
          omega (
            arith,
            whole_split k inner is,
            next (suc (suc c)) (omega arith) (omega (arith, counted_in words k is)),
            sum_more whole (suc k) (suc c),
            sum_more whole (suc k) c,
            ap whole at_left,
            ap whole at_right,
          )

  -- a visit enters no more nodes than the list has
  pub entered_at_most : (levels : ℕ) → entered words levels 0 ≤ n
  unfolding sum splits_before
  entered_at_most levels = omega (arith, enough levels 0 some, at_hand n 0 1 (omega arith) refl)
