-- What demand 3 asks of the cells and of the leaves' offsets, and what it says of where a walk ends.
use Rattle.std.specs.Prelude.{List, ℕ, ◌≤◌, ◌<◌, ℤ, length}
use Rattle.std.specs.Int.Signed.{mag}
use Rattle.nodes.specs.Nodes.{word}
use Rattle.nodes.specs.declared.Leaf.{Leaf}
use Rattle.nodes.specs.declared.Split.{Split}
use Rattle.validation.specs.Reach.{SplitAt, LeafAt, LiesAt, Walks}

module _ (words : List ℤ) (n : ℕ) (cells : List ℤ) where
  -- 16 or more cells, that cover the properties of the tree
  pub record Covers : Type 0 where
    pub sixteen : 16 ≤ length cells
    pub covered : {place : ℕ} {s : Split} → place < n → SplitAt words place s → s.property < length cells

  -- the walk with these cells ends at a leaf: which, where, and how deep
  pub record EndsAt : Type 0 where
    pub place : ℕ
    pub leaf : Leaf
    pub depth : ℕ
    pub inside : place < n
    pub is_leaf : LeafAt words place leaf
    pub lies : LiesAt words depth place
    pub walks : Walks words (word cells) depth place

-- every leaf's offset is one of -32,768..32,767
pub record OffsetsFit (words : List ℤ) (n : ℕ) : Type 0 where
  pub fit : {place : ℕ} {l : Leaf} → place < n → LeafAt words place l → mag l.offset < 32768
