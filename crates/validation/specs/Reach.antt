-- Demand 3: which leaves the walk reaches, by its own rule, and how deep a node lies.
use Rattle.std.specs.Prelude.{List, ◌≡◌, ℕ, suc, ◌≤◌, ◌<◌, ℤ}
use Rattle.std.specs.Int.Signed.{lt_z}
use Rattle.std.specs.Int.{w32}
use Rattle.std.proofs.Common.{SFits}
use Rattle.integer.specs.Order.{if}
use Rattle.nodes.specs.Nodes.{node_at}
use Rattle.nodes.specs.declared.Node.TheVariants as node
use Rattle.nodes.specs.declared.Split.{Split}
use Rattle.nodes.specs.declared.Leaf.{Leaf}
use Rattle.refusal.specs.Paper.{gives}

module _ (words : List ℤ) where
  abbrev pub SplitAt : ℕ → Split → Type 0
  SplitAt place s = node_at words place ≡ gives (node.Split s)

  abbrev pub LeafAt : ℕ → Leaf → Type 0
  LeafAt place l = node_at words place ≡ gives (node.Leaf l)

  -- the node at the place lies so deep: the root at 0, a child one below its split
  pub data LiesAt : ℕ → ℕ → Type 0 where
    root : LiesAt 0 0
    left : {depth place : ℕ} {s : Split} → LiesAt depth place → SplitAt place s → LiesAt (suc depth) s.left
    right : {depth place : ℕ} {s : Split} → LiesAt depth place → SplitAt place s → LiesAt (suc depth) s.right

  -- where the walk with these cells stands after so many steps: left holds cell > value
  abbrev pub chosen : (ℕ → ℤ) → Split → ℕ
  chosen cells s = if (lt_z s.value (cells s.property)) s.left s.right

  pub data Walks (cells : ℕ → ℤ) : ℕ → ℕ → Type 0 where
    start : Walks cells 0 0
    step : {steps place : ℕ} {s : Split} → Walks cells steps place → SplitAt place s → Walks cells (suc steps) (chosen cells s)

  -- signed 32-bit values for the cells
  abbrev pub Cells32 : (ℕ → ℤ) → Type 0
  Cells32 cells = (p : ℕ) → SFits w32 (cells p)

  -- some cells lead the walk to the place
  pub record Reached (place : ℕ) : Type 0 where
    pub cells : ℕ → ℤ
    pub are32 : Cells32 cells
    pub steps : ℕ
    pub walks : Walks cells steps place

  -- no leaf of the first n nodes lies deeper than 2,048, and each is reached
  pub record EachLeafReached (n : ℕ) : Type 0 where
    pub shallow : {place depth : ℕ} {l : Leaf} → place < n → LeafAt place l → LiesAt depth place → depth ≤ 2048
    pub reached : {place : ℕ} {l : Leaf} → place < n → LeafAt place l → Reached place
