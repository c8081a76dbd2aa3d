-- Module 7 of document 01, the order of the records: breadth first, two levels at a time. A split's record stands for itself and its two
-- children, so its four grandchildren are queued; a leaf child is queued twice in their place.
use Rattle.std.specs.Prelude.{List, [], ◌∷◌, ◌++◌, ℕ, zero, suc, ◌+◌, ◌*◌, ℤ, length, get_or}
use Rattle.nodes.specs.Nodes.{node_at}
use Rattle.nodes.specs.declared.Node.{Node}
use Rattle.nodes.specs.declared.Node.TheVariants as node
use Rattle.refusal.specs.Paper.{Outcome, gives, refuses}

-- what is queued for a child: its own two children, or the leaf itself twice
abbrev pub queued_for : Outcome Node → ℕ → List ℕ
queued_for (gives (node.Split s)) place = s.left ∷ s.right ∷ []
queued_for (gives (node.Leaf l)) place = place ∷ place ∷ []
queued_for (refuses number details) place = []

-- splits at even depth below a place (itself included), by the levels that may still follow
abbrev pub even_from : Outcome Node → (ℕ → ℕ) → ℕ
even_from (gives (node.Split s)) odd = 1 + (odd s.left + odd s.right)
even_from (gives (node.Leaf l)) odd = 0
even_from (refuses number details) odd = 0

abbrev pub odd_from : Outcome Node → (ℕ → ℕ) → ℕ
odd_from (gives (node.Split s)) even = even s.left + even s.right
odd_from (gives (node.Leaf l)) even = 0
odd_from (refuses number details) even = 0

module _ (words : List ℤ) where
  abbrev pub grandchildren : Outcome Node → List ℕ
  grandchildren (gives (node.Split s)) = queued_for (node_at words s.left) s.left ++ queued_for (node_at words s.right) s.right
  grandchildren (gives (node.Leaf l)) = []
  grandchildren (refuses number details) = []

  -- all that has been queued, from the root on, when k records are written: record k is of the k-th
  unfoldable pub queued : ℕ → List ℕ
  queued zero = 0 ∷ []
  queued (suc k) = queued k ++ grandchildren (node_at words (get_or (queued k) k 0))

  -- the node that record k is of, and the place of its first grandchild's record
  abbrev pub node_of_record : ℕ → Outcome Node
  node_of_record k = node_at words (get_or (queued k) k 0)

  abbrev pub first_of : ℕ → ℕ
  first_of k = length (queued k)

  -- two levels at a time
  unfoldable pub even_splits : ℕ → ℕ → ℕ
  even_splits zero place = 0
  even_splits (suc levels) place = even_from (node_at words place) (λ child. odd_from (node_at words child) (even_splits levels))

  -- of n nodes: n levels are more than enough
  abbrev pub record_count : ℕ → ℕ
  record_count n = 1 + 4 * even_splits n 0
