-- The direct walk over a sound list: it is not refused, and ends at the leaf that the cells lead to, after as many hops as that lies deep.
use borrow.Author.Tests.{lt-ltb, eq-eqb, ne_eqb, le-ltb}
use lib.IntN.{ℤ}
use lib.ListN.{length}
use lib.Signed.{lt_z}
use mathlib.Core.Bool.{Bool, true, false}
use mathlib.Core.List.{List}
use mathlib.Core.Path.{◌≡◌}
use native.Mathlib.Omega.{arith}
use Prim.Native.Nat.{ℕ, zero, suc, ◌+◌, ◌≤◌, ◌<◌}
use Rattle.integer.specs.Order.{if}
use Rattle.nodes.specs.Nodes.{node_at, word}
use Rattle.nodes.specs.declared.Node.{Node}
use Rattle.nodes.specs.declared.Node.TheVariants as node
use Rattle.nodes.specs.declared.Split.{Split}
use Rattle.predict.specs.declared.neighbours.PredictionData.{PredictionData}
use Rattle.refusal.specs.Paper.{gives}
use Rattle.validation.specs.Reach.{SplitAt, LiesAt, root, left, right, Walks, start, step}
use Rattle.validation.specs.Shape.{shape_of}
use Rattle.validation.proofs.Sound.{node_there, children, inside}
use Rattle.walk.specs.Walk.{answer_of, chosen, step_of, enter, walk_from, walk_by}
use Rattle.agreement.specs.Covers.{Covers, EndsAt}

module _ (words : List ℤ) (n : ℕ) (sound : shape_of words n ≡ gives tt) (some : 0 < n) (cells : List ℤ) (covers : Covers words n cells) (d : PredictionData) (wp : ℤ) where
  -- a split of a sound list refuses no walk
  pub steps_on : {place : ℕ} {s : Split} → place < n → SplitAt words place s → step_of cells n s place ≡ gives (chosen cells s)
  unfolding step_of
  steps_on {place} {s} h split =
      let at = inside words n sound some place h split in
      let are = children words n sound some place h split in
      let side : s.right ≡ s.left + 1 = omega (arith, are) in
      rw (lt-ltb place s.left at.0, eq-eqb s.right (s.left + 1) side, lt-ltb s.right n at.2, lt-ltb s.property (length cells) (covers.covered h split))

  pub lies_on : {depth place : ℕ} {s : Split} → LiesAt words depth place → SplitAt words place s → (t : Bool) → LiesAt words (suc depth) (if t s.left s.right)
  lies_on lies split true = left lies split
  lies_on lies split false = right lies split

  pub inside_on : {place : ℕ} {s : Split} → place < n → SplitAt words place s → (t : Bool) → (place < if t s.left s.right) × (if t s.left s.right < n)
  inside_on {place} h split true = let at = inside words n sound some place h split in (at.0, at.1)
  inside_on {place} h split false =
      let at = inside words n sound some place h split in
      (omega (arith, at, children words n sound some place h split), at.2)

  abbrev Answers : ℕ → ℕ → ℕ → EndsAt words n cells → Type 0
  Answers fuel place hops end = walk_from words cells n d wp fuel place hops ≡ gives (answer_of end.leaf d wp end.depth)

  walk_ends : (fuel place hops : ℕ) → n ≤ fuel + place → place < n → LiesAt words hops place → Walks words (word cells) hops place → (end : EndsAt words n cells) × Answers fuel place hops end
  unfolding walk_from
  walk_ends zero place hops enough h lies walks = absurd (omega arith)
  walk_ends (suc fuel) place hops enough h lies walks = by_node (node_there words n sound some place h).0 (node_there words n sound some place h).1 (walk_ends fuel)
    where
      by_node : (m : Node) → node_at words place ≡ gives m
          → ((place : ℕ) (hops : ℕ) → n ≤ fuel + place → place < n → LiesAt words hops place → Walks words (word cells) hops place → (end : EndsAt words n cells) × Answers fuel place hops end)
          → (end : EndsAt words n cells) × (enter (λ s. step_of cells n s place) (λ l. answer_of l d wp hops) (node_at words place) hops (walk_from words cells n d wp fuel) ≡ gives (answer_of end.leaf d wp end.depth))
      by_node (node.Leaf l) is later =
          (record { place = place; leaf = l; depth = hops; inside = h; is_leaf = is; lies = lies; walks = walks }, rw is)
      by_node (node.Split s) is later =
          let t : Bool = lt_z s.value (word cells s.property) in
          let on = inside_on h is t in
          let rest = later (chosen cells s) (suc hops) (omega (arith, on)) on.1 (lies_on lies is t) (step walks is) in
          (rest.0, rw (is, steps_on h is) rest.1)

  -- from the root
  pub direct_ends : (end : EndsAt words n cells) × (walk_by (gives n) words cells d wp ≡ gives (answer_of end.leaf d wp end.depth))
  direct_ends =
      let it = walk_ends n 0 0 (omega arith) some root start in
      let there : n ≡ 0 → ⊥ = λ e. omega (arith, e) in
      (it.0, rw (ne_eqb n 0 there, le-ltb (length cells) 16 covers.sixteen) it.1)
