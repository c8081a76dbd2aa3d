-- Walks down a sound list: each step goes one deeper, a walk to a child came from its parent by the side that it is on, and below every
-- place there is a leaf, to which no walk comes but through that place.
use lib.IntN.{ℤ}
use lib.Signed.{lt_z}
use mathlib.Core.Bool.{Bool, true, false}
use mathlib.Core.List.{List}
use mathlib.Core.Logic.{◌⊎◌, inl, inr}
use mathlib.Core.Path.{◌≡◌, refl}
use native.Mathlib.Omega.{arith}
use Prim.Native.Nat.{ℕ, zero, suc, ◌+◌, ◌≤◌, ◌<◌}
use Rattle.integer.specs.Order.{if}
use Rattle.nodes.specs.Nodes.{node_at}
use Rattle.nodes.specs.declared.Leaf.{Leaf}
use Rattle.nodes.specs.declared.Node.{Node}
use Rattle.nodes.specs.declared.Node.TheVariants as node
use Rattle.nodes.specs.declared.Split.{Split}
use Rattle.refusal.specs.Paper.{gives}
use Rattle.validation.specs.Reach.{SplitAt, LeafAt, LiesAt, root, left, right, chosen, Walks, start, step}
use Rattle.validation.specs.Shape.{shape_of}
use Rattle.validation.proofs.Sound.{node_there, inside}
use Rattle.validation.proofs.Tree.{Child, one_way, root_is_no_child, lies_inside}

pub one_split : {s t : Split} (words : List ℤ) (place : ℕ) → SplitAt words place s → SplitAt words place t → s ≡ t
one_split words place e f = cc

-- ---- how a walk came to where it stands

record CameBy (words : List ℤ) (cells : ℕ → ℤ) (k c : ℕ) : Type 0 where
  place : ℕ
  steps : ℕ
  split : Split
  walk : Walks words cells steps place
  there : SplitAt words place split
  longer : k ≡ suc steps
  chose : chosen words cells split ≡ c

module _ (words : List ℤ) where
  came_by : {cells : ℕ → ℤ} {k c : ℕ} → Walks words cells k c → ((k ≡ 0) × (c ≡ 0)) ⊎ CameBy words cells k c
  came_by start = inl (refl, refl)
  came_by (step walk split) = inr (record { place = _; steps = _; split = _; walk = walk; there = split; longer = refl; chose = refl })

  one_below : {d p : ℕ} {s : Split} (test : Bool) → LiesAt words d p → SplitAt words p s → LiesAt words (suc d) (if test s.left s.right)
  one_below true lies split = left lies split
  one_below false lies split = right lies split

  -- each step goes one deeper
  pub walk_lies : {cells : ℕ → ℤ} {k c : ℕ} → Walks words cells k c → LiesAt words k c
  walk_lies start = root
  walk_lies {cells} (step {s = s} walk split) = one_below (lt_z s.value (cells s.property)) (walk_lies walk) split

child_of_lem : (s : Split) (side : Bool) {c : ℕ} → if side s.left s.right ≡ c → Child s c
child_of_lem s true e = inl e
child_of_lem s false e = inr e

-- the walk stood at the place before, and its split's test sent it to this side
pub record Sent (words : List ℤ) (cells : ℕ → ℤ) (k place : ℕ) (s : Split) (side : Bool) : Type 0 where
  pub steps : ℕ
  pub longer : k ≡ suc steps
  pub walk : Walks words cells steps place
  pub test : lt_z s.value (cells s.property) ≡ side

-- a leaf below the place: no walk comes to it but through the place
pub record LeafBelow (words : List ℤ) (n place : ℕ) : Type 0 where
  pub at : ℕ
  pub leaf : Leaf
  pub before : at < n
  pub there : LeafAt words at leaf
  pub through : {cells : ℕ → ℤ} {k : ℕ} → Walks words cells k at → (j : ℕ) × Walks words cells j place
  pub deeper : (d : ℕ) → LiesAt words d place → (e : ℕ) × (d ≤ e) × LiesAt words e at

module _ (words : List ℤ) (n : ℕ) (sound : shape_of words n ≡ gives tt) (some : 0 < n) where
  -- a walk to a child came from its parent by that side
  pub sent : {cells : ℕ → ℤ} {k p : ℕ} {s : Split} (side : Bool) → p < n → SplitAt words p s → Walks words cells k (if side s.left s.right)
      → Sent words cells k p s side
  sent {cells} {k} {p} {s} side h split walk = by (came_by words walk)
    where
      by : ((k ≡ 0) × (if side s.left s.right ≡ 0)) ⊎ CameBy words cells k (if side s.left s.right) → Sent words cells k p s side
      by (inl at_root) = absurd (root_is_no_child words n sound some h split (child_of_lem s side at_root.1))
      by (inr it) =
          let inner = lies_inside words n sound some (walk_lies words it.walk) in
          let way = one_way words n sound some (lt_z it.split.value (cells it.split.property)) side inner h it.there split it.chose in
          let same : it.split ≡ s = one_split words p (rw way.0 at it.there) split in
          record { steps = it.steps; longer = it.longer; walk = rw way.0 at it.walk; test = rw same at way.1 }

  under_left : {p : ℕ} {s : Split} → p < n → SplitAt words p s → LeafBelow words n s.left → LeafBelow words n p
  under_left h split it = record {
    at = it.at;
    leaf = it.leaf;
    before = it.before;
    there = it.there;
    through = λ walk. let came = sent true h split (it.through walk).1 in (came.steps, came.walk);
    deeper = λ d lies. let far = it.deeper (suc d) (left lies split) in (far.0, omega (arith, far.1), far.2);
  }

  by_node : (p : ℕ) (node : Node) → p < n → node_at words p ≡ gives node → ((c : ℕ) → p < c → c < n → LeafBelow words n c) → LeafBelow words n p
  by_node p (node.Leaf l) h is later = record { at = p; leaf = l; before = h; there = is; through = λ walk. (_, walk); deeper = λ d lies. (d, omega arith, lies) }
  by_node p (node.Split s) h is later =
      let child = inside words n sound some p h is in
      under_left h is (later s.left child.0 child.1)

  leaf_within : (room p : ℕ) → n ≤ p + room → p < n → LeafBelow words n p
  leaf_within zero p enough h = absurd (omega arith)
  leaf_within (suc room) p enough h =
      let node = node_there words n sound some p h in
      by_node p node.0 h node.1 (λ c later inner. leaf_within room c (omega arith) inner)

  -- children lie later, so below every place there is a leaf
  pub leaf_below : (p : ℕ) → p < n → LeafBelow words n p
  leaf_below p h = leaf_within n p (omega arith) h
