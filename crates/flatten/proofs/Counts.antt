-- Of a sound list: how much is queued, and that the records are 1 + 4·(splits at even depth). Each even split that is queued is written once,
-- and what it queues holds the even splits below it, so written and queued together they are always those of the whole tree.
use lib.IntN.{ℤ}
use lib.ListN.{length, get_or, drop, length-append, drop_of_length-le}
use lib.Seq.{drop-cons, drop-append-le}
use mathlib.Core.List.{List, [], ◌∷◌, ◌++◌}
use mathlib.Core.Path.{◌≡◌, refl, ap, ◌∙◌}
use native.Mathlib.Decide.{dec_lt}
use native.Mathlib.Omega.{arith}
use Prim.Native.Nat.{ℕ, zero, suc, ◌+◌, ◌-◌, ◌*◌, ◌≤◌, ◌<◌}
use Rattle.nodes.specs.Nodes.{node_at}
use Rattle.nodes.specs.declared.Leaf.{Leaf}
use Rattle.nodes.specs.declared.Node.{Node}
use Rattle.nodes.specs.declared.Node.TheVariants as node
use Rattle.nodes.specs.declared.Split.{Split}
use Rattle.refusal.specs.Paper.{Outcome, gives, refuses}
use Rattle.validation.proofs.Linear.{entered_at_most}
use Rattle.validation.proofs.Sound.{node_there, inside, children, at_most_one}
use Rattle.validation.specs.Reach.{SplitAt}
use Rattle.validation.specs.Shape.{shape_of, splits_in}
use Rattle.validation.specs.Visit.{entered_by, entered}
use Rattle.flatten.specs.Queue.{queued_for, grandchildren, queued, node_of_record, even_from, odd_from, even_splits, record_count}

-- ---- lists of places

pub AllBelow : ℕ → List ℕ → Type 0
AllBelow n [] = Unit
AllBelow n (p ∷ ps) = (p < n) × AllBelow n ps

all_append : (n : ℕ) (a b : List ℕ) → AllBelow n a → AllBelow n b → AllBelow n (a ++ b)
unfolding AllBelow
all_append n [] b h k = k
all_append n (p ∷ a) b h k = (h.0, all_append n a b h.1 k)

all_at : (n : ℕ) (ps : List ℕ) (i : ℕ) → 0 < n → AllBelow n ps → get_or ps i 0 < n
unfolding AllBelow
all_at n [] i some h = some
all_at n (p ∷ ps) zero some h = h.0
all_at n (p ∷ ps) (suc i) some h = all_at n ps i some h.1

pub sum_of : (ℕ → ℕ) → List ℕ → ℕ
sum_of f [] = 0
sum_of f (p ∷ ps) = f p + sum_of f ps

sum_append : (f : ℕ → ℕ) (a b : List ℕ) → sum_of f (a ++ b) ≡ sum_of f a + sum_of f b
unfolding sum_of
sum_append f [] b = omega arith
sum_append f (p ∷ a) b = omega (arith, sum_append f a b)

-- ---- three nodes are entered for each even split

odd_entered : (o : Outcome Node) (even below : ℕ → ℕ) → ((p : ℕ) → 3 * even p ≤ below p) → 3 * odd_from o even + 1 ≤ entered_by o below
odd_entered (gives (node.Split s)) even below h = omega (arith, h s.left, h s.right)
odd_entered (gives (node.Leaf l)) even below h = omega arith
odd_entered (refuses number details) even below h = omega arith

even_entered : (o : Outcome Node) (odd below : ℕ → ℕ) → ((p : ℕ) → 3 * odd p + 1 ≤ below p) → 3 * even_from o odd ≤ entered_by o below
even_entered (gives (node.Split s)) odd below h = omega (arith, h s.left, h s.right)
even_entered (gives (node.Leaf l)) odd below h = omega arith
even_entered (refuses number details) odd below h = omega arith

module _ (words : List ℤ) where
  twice : ℕ → ℕ
  twice zero = 0
  twice (suc levels) = suc (suc (twice levels))

  three_each : (levels p : ℕ) → 3 * even_splits words levels p ≤ entered words (twice levels) p
  unfolding even_splits entered twice
  three_each zero p = omega arith
  three_each (suc levels) p =
      even_entered (node_at words p) (λ child. odd_from (node_at words child) (even_splits words levels)) (entered words (suc (twice levels)))
      (λ child. odd_entered (node_at words child) (even_splits words levels) (entered words (twice levels)) (three_each levels))

  -- a leaf has none
  leaf_none : (levels p : ℕ) {l : Leaf} → node_at words p ≡ gives (node.Leaf l) → even_splits words levels p ≡ 0
  unfolding even_splits
  leaf_none zero p is = refl
  leaf_none (suc levels) p is = rw is

-- ---- what is queued, and what is kept after k records, `splits` of them splits

module _ (words : List ℤ) where
  -- the place that record k is of
  abbrev pub place_of : ℕ → ℕ
  place_of k = get_or (queued words k) k 0

  pub next_queued : (k : ℕ) → queued words (suc k) ≡ queued words k ++ grandchildren words (node_of_record words k)
  unfolding queued
  next_queued k = refl

  -- the place that is taken, and what is left
  pub first_queued : (k : ℕ) → k < length (queued words k) → drop k (queued words k) ≡ place_of k ∷ drop (suc k) (queued words k)
  first_queued k h = drop-cons (queued words k) k 0 h

  pub then_queued : (k : ℕ) → k < length (queued words k) → drop (suc k) (queued words (suc k)) ≡ drop (suc k) (queued words k) ++ grandchildren words (node_of_record words k)
  then_queued k h = ap (drop (suc k)) (next_queued k) ∙ drop-append-le (suc k) (queued words k) (grandchildren words (node_of_record words k)) h

  pub record SoFar (n k : ℕ) : Type 0 where
    pub reached : k ≤ length (queued words k)
    pub inner : AllBelow n (queued words k)
    pub splits : ℕ
    pub few : splits ≤ k
    pub many : length (queued words k) ≡ 1 + 4 * splits
    pub same_evens : splits + sum_of (even_splits words n) (drop k (queued words k)) ≡ even_splits words n 0

-- ---- counts that agree on the children agree

odd_same : (o : Outcome Node) (f g : ℕ → ℕ) → ((s : Split) → o ≡ gives (node.Split s) → (f s.left ≡ g s.left) × (f s.right ≡ g s.right)) → odd_from o f ≡ odd_from o g
odd_same (gives (node.Split s)) f g h = omega (arith, h s refl)
odd_same (gives (node.Leaf l)) f g h = refl
odd_same (refuses number details) f g h = refl

even_same : (o : Outcome Node) (f g : ℕ → ℕ) → ((s : Split) → o ≡ gives (node.Split s) → (f s.left ≡ g s.left) × (f s.right ≡ g s.right)) → even_from o f ≡ even_from o g
even_same (gives (node.Split s)) f g h = omega (arith, h s refl)
even_same (gives (node.Leaf l)) f g h = refl
even_same (refuses number details) f g h = refl

module _ (words : List ℤ) (n : ℕ) (sound : shape_of words n ≡ gives tt) (some : 0 < n) where
  -- a split's children, later and inside
  below : (p : ℕ) {s : Split} → p < n → SplitAt words p s → (p < s.left) × (s.left < n) × (p < s.right) × (s.right < n)
  below p h split =
      let are = inside words n sound some p h split in
      let at = children words n sound some p h split in
      (are.0, are.1, omega (arith, are.0, at), are.2)

  -- levels enough for all that lies below: more change nothing
  stable : (a b p : ℕ) → p < n → n ≤ a + p → n ≤ b + p → even_splits words a p ≡ even_splits words b p
  unfolding even_splits
  stable zero b p h k l = absurd (omega arith)
  stable (suc a) zero p h k l = absurd (omega arith)
  stable (suc a) (suc b) p h k l =
      even_same (node_at words p) _ _
      (λ s is.
      let at = below p h is in
      (child s.left at.0 at.1 (stable a b), child s.right at.2 at.3 (stable a b)))
    where
      child : (q : ℕ) → p < q → q < n → ((g : ℕ) → g < n → n ≤ a + g → n ≤ b + g → even_splits words a g ≡ even_splits words b g)
          → odd_from (node_at words q) (even_splits words a) ≡ odd_from (node_at words q) (even_splits words b)
      child q later inner next =
          odd_same (node_at words q) (even_splits words a) (even_splits words b)
          (λ s is.
          let at = below q inner is in (
            next s.left at.1 (omega (arith, at)) (omega (arith, at)),
            next s.right at.3 (omega (arith, at)) (omega (arith, at)),
          ))

  -- ---- the even splits at and below a place

  abbrev evens : ℕ → ℕ
  evens = even_splits words n

  evens_split : (p : ℕ) {s : Split} → p < n → SplitAt words p s → evens p ≡ 1 + (odd_from (node_at words s.left) evens + odd_from (node_at words s.right) evens)
  unfolding even_splits
  evens_split p h split = stable n (suc n) p h (omega arith) (omega arith) ∙ rw split

  -- what is queued for a child: two places, inside, with the even splits below it
  record Queues (places : List ℕ) (count sum : ℕ) : Type 0 where
    many : length places ≡ count
    inner : AllBelow n places
    holds : sum_of evens places ≡ sum

  for_child : (p : ℕ) → p < n → (node : Node) → node_at words p ≡ gives node → Queues (queued_for (gives node) p) 2 (odd_from (gives node) evens)
  unfolding AllBelow sum_of
  for_child p h (node.Leaf l) is =
      let none = leaf_none words n p is in
      record { many = refl; inner = (h, (h, tt)); holds = omega (arith, none) }
  for_child p h (node.Split s) is =
      let at = below p h is in
      record { many = refl; inner = (at.1, (at.3, tt)); holds = omega arith }

  both : {a b : List ℕ} {x y : ℕ} → Queues a 2 x → Queues b 2 y → Queues (a ++ b) 4 (x + y)
  both {a} {b} q r = record {
    many = length-append a b ∙ omega (arith, q.many, r.many);
    inner = all_append n a b q.inner r.inner;
    holds = sum_append evens a b ∙ omega (arith, q.holds, r.holds);
  }

  of_child : (p : ℕ) → p < n → Queues (queued_for (node_at words p) p) 2 (odd_from (node_at words p) evens)
  of_child p h =
      let (node, is) = node_there words n sound some p h in
      rw is (for_child p h node is)

  -- a record queues four places for a split and none for a leaf, with the even splits below
  of_node : (p : ℕ) → p < n → (node : Node) → node_at words p ≡ gives node → (sum : ℕ) × (evens p ≡ splits_in (gives node) + sum) × Queues (grandchildren words (gives node)) (4 * splits_in (gives node)) sum
  unfolding AllBelow sum_of
  of_node p h (node.Leaf l) is = (0, leaf_none words n p is, record { many = refl; inner = tt; holds = refl })
  of_node p h (node.Split s) is =
      let at = below p h is in (
        odd_from (node_at words s.left) evens + odd_from (node_at words s.right) evens,
        evens_split p h is,
        both (of_child s.left at.1) (of_child s.right at.3),
      )

  -- ---- after k records

  pub at_start_lem : SoFar words n 0
  unfolding queued AllBelow sum_of
  at_start_lem = record { reached = omega arith; inner = (some, tt); splits = 0; few = omega arith; many = refl; same_evens = omega arith }

  pub place_inside : (k : ℕ) → SoFar words n k → place_of words k < n
  place_inside k so_far = all_at n (queued words k) k some so_far.inner

  next_so_far : (k : ℕ) → k < length (queued words k) → SoFar words n k → (node : Node) → node_of_record words k ≡ gives node → SoFar words n (suc k)
  unfolding sum_of
  next_so_far k h so_far node is =
      let (sum, evens-here, queues) = of_node (place_of words k) (place_inside k so_far) node is in
      let grand = grandchildren words (gives node) in
      let all : queued words (suc k) ≡ queued words k ++ grand = next_queued words k ∙ ap (λ (o : Outcome Node). queued words k ++ grandchildren words o) is in
      let left : drop (suc k) (queued words (suc k)) ≡ drop (suc k) (queued words k) ++ grand = then_queued words k h ∙ ap (λ (o : Outcome Node). drop (suc k) (queued words k) ++ grandchildren words o) is in
      let long = ap length all ∙ length-append (queued words k) grand in
      let before = ap (sum_of evens) (first_queued words k h) in
      let after = ap (sum_of evens) left ∙ sum_append evens (drop (suc k) (queued words k)) grand in
      record {
        reached = omega (arith, long);
        inner = rw all (all_append n (queued words k) grand so_far.inner queues.inner);
        splits = so_far.splits + splits_in (gives node);
        few = omega (arith, so_far.few, at_most_one words (gives node));
        many = long ∙ omega (arith, so_far.many, queues.many);
        same_evens = omega (arith, before, after, so_far.same_evens, evens-here, queues.holds);
      }

  pub one_record_more : (k : ℕ) → k < length (queued words k) → SoFar words n k → SoFar words n (suc k)
  one_record_more k h so_far =
      let there = node_there words n sound some (place_of words k) (place_inside k so_far) in
      next_so_far k h so_far there.0 there.1

  -- ---- room

  evens_few : 3 * evens 0 ≤ n
  evens_few = omega (arith, three_each words n 0, entered_at_most words n sound some (twice words n))

  -- what is queued, of which k are taken, is never more than n + 1
  pub ring_room : (k : ℕ) → SoFar words n k → length (queued words k) ≤ k + (n + 1)
  ring_room k so_far = omega (arith, so_far.few, so_far.many, so_far.same_evens, evens_few)

  pub at_most_records : (k : ℕ) → SoFar words n k → length (queued words k) ≤ record_count words n
  at_most_records k so_far = omega (arith, so_far.many, so_far.same_evens)

  pub output_room : record_count words n ≤ 2 * n - 1
  output_room = omega (arith, evens_few)

  -- none is queued: all records are written
  pub none_queued : (k : ℕ) → SoFar words n k → length (queued words k) ≤ k → k ≡ record_count words n
  unfolding sum_of
  none_queued k so_far h =
      let empty : sum_of evens (drop k (queued words k)) ≡ 0 = ap (sum_of evens) (drop_of_length-le (queued words k) h) in
      omega (arith, so_far.reached, so_far.many, so_far.same_evens, empty)

  so_far_by : (k : ℕ) → SoFar words n k → k < record_count words n → Dec (k < length (queued words k)) → k < length (queued words k)
  so_far_by k so_far h (yes l) = l
  so_far_by k so_far h (no l) = absurd (omega (arith, none_queued k so_far (omega arith)))

  pub still_queued : (k : ℕ) → SoFar words n k → k < record_count words n → k < length (queued words k)
  still_queued k so_far h = so_far_by k so_far h (dec_lt k (length (queued words k)))

  pub so_far : (k : ℕ) → k ≤ record_count words n → SoFar words n k
  so_far zero h = at_start_lem
  so_far (suc k) h = let before = so_far k (omega arith) in one_record_more k (still_queued k before h) before

  -- a split record queues four places
  pub four_more : (k : ℕ) {s : Split} → SoFar words n k → node_of_record words k ≡ gives (node.Split s) → length (queued words (suc k)) ≡ length (queued words k) + 4
  four_more k {s} before split =
      let (sum, evens-here, queues) = of_node (place_of words k) (place_inside k before) (node.Split s) split in
      ap length (next_queued words k ∙ ap (λ (o : Outcome Node). queued words k ++ grandchildren words o) split)
      ∙ length-append (queued words k) (grandchildren words (gives (node.Split s)))
      ∙ omega (arith, queues.many)
