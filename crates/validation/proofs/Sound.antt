-- What a list that passes shape is: no place has a fault, the children of each split lie where its number puts them, inside the list and
-- after it, and the count is 2·splits+1.
use borrow.Author.Tests.{leb-true, eqb-true, ne_eqb}
use lib.Dec.{leb, eqb}
use lib.IntN.{ℤ}
use mathlib.Core.Bool.{Bool, true, false, ◌&&◌}
use mathlib.Core.List.{List}
use mathlib.Core.Path.{◌≡◌, refl}
use native.Mathlib.Decide.{dec_lt}
use native.Mathlib.Omega.{arith}
use Prim.Native.Nat.{ℕ, zero, suc, ◌+◌, ◌*◌, ◌≤◌, ◌<◌}
use Rattle.integer.proofs.Tests.{and_left, and_right}
use Rattle.integer.specs.Order.{if}
use Rattle.nodes.specs.Nodes.{node_at, then}
use Rattle.nodes.specs.declared.Node.{Node}
use Rattle.nodes.specs.declared.Node.TheVariants as node
use Rattle.nodes.specs.declared.Split.{Split}
use Rattle.refusal.proofs.Outcomes.{no_refusal}
use Rattle.refusal.specs.Paper.{Outcome, gives, refuses}
use Rattle.validation.specs.Reach.{SplitAt}
use Rattle.validation.specs.Shape.{splits_in, splits_before, placed, first_fault, complete, shape_of}

-- ---- an answer says that each part answered

pub both_given : {A : Type 0} {a : A} (first : Outcome Unit) (next : Outcome A) → then first next ≡ gives a → (first ≡ gives tt) × (next ≡ gives a)
both_given (gives u) next e = (refl, e)
both_given (refuses number details) next e = absurd (no_refusal e)

pub passed : {A : Type 0} {b : A} (t : Bool) (a : A) (number : ℕ) (details : List ℤ) → if t (gives a) (refuses number details) ≡ gives b → t ≡ true
passed true a number details e = refl
passed false a number details e = absurd (no_refusal e)

-- ---- the splits before a place

module _ (words : List ℤ) where
  pub at_most_one : (o : Outcome Node) → splits_in o ≤ 1
  at_most_one (gives (node.Split s)) = omega arith
  at_most_one (gives (node.Leaf l)) = omega arith
  at_most_one (refuses number details) = omega arith

  -- one place more is at most one split more
  pub one_more : (k : ℕ) → (splits_before words k ≤ splits_before words (suc k)) × (splits_before words (suc k) ≤ splits_before words k + 1)
  unfolding splits_before
  one_more k = (omega arith, omega (arith, at_most_one (node_at words k)))

  -- a split is one more
  pub counted_in : (k : ℕ) {s : Split} → SplitAt words k s → splits_before words (suc k) ≡ splits_before words k + 1
  unfolding splits_before
  counted_in k split = rw split

  -- the count of splits never falls
  pub more_places : (k n : ℕ) → k ≤ n → splits_before words k ≤ splits_before words n
  more_places k zero h = let is : k ≡ 0 = omega arith in rw is (omega arith)
  more_places k (suc n) h = last (more_places k n) (dec_lt n k)
    where
      last : (k ≤ n → splits_before words k ≤ splits_before words n) → Dec (n < k) → splits_before words k ≤ splits_before words (suc n)
      last before (yes l) = let is : k ≡ suc n = omega arith in rw is (omega arith)
      last before (no l) = omega (arith, before (omega arith), one_more n)

  -- no fault among n nodes is none among fewer
  pub faultless : (k n : ℕ) → first_fault words n ≡ gives tt → k ≤ n → first_fault words k ≡ gives tt
  unfolding first_fault
  faultless k zero e h = let is : k ≡ 0 = omega arith in rw is
  faultless k (suc n) e h = last (faultless k n (both_given (first_fault words n) (placed (node_at words n) n (splits_before words n)) e).0) (dec_lt n k)
    where
      last : (k ≤ n → first_fault words k ≡ gives tt) → Dec (n < k) → first_fault words k ≡ gives tt
      last before (yes l) = let is : k ≡ suc n = omega arith in rw is e
      last before (no l) = before (omega arith)

-- ---- what is known of a split that is in place

in_place : {s : Split} (o : Outcome Node) (place splits : ℕ) → o ≡ gives (node.Split s) → placed o place splits ≡ gives tt
    → (place ≤ 2 * splits) × (s.left ≡ 2 * splits + 1) × (s.right ≡ 2 * splits + 2)
in_place {s} o place splits is h =
    let e : (leb place (2 * splits) && (eqb s.left (2 * splits + 1) && eqb s.right (2 * splits + 2))) ≡ true = passed _ tt _ _ (rw is at h) in
    let f : (eqb s.left (2 * splits + 1) && eqb s.right (2 * splits + 2)) ≡ true = and_right (leb place (2 * splits)) _ e in (
      leb-true _ _ (and_left _ (eqb s.left (2 * splits + 1) && eqb s.right (2 * splits + 2)) e),
      eqb-true _ _ (and_left _ (eqb s.right (2 * splits + 2)) f),
      eqb-true _ _ (and_right (eqb s.left (2 * splits + 1)) _ f),
    )

-- any node that is in place
low_enough : (o : Outcome Node) (place splits : ℕ) → placed o place splits ≡ gives tt → place ≤ 2 * splits
low_enough (gives (node.Split s)) place splits h = (in_place {s = s} (gives (node.Split s)) place splits refl h).0
low_enough (gives (node.Leaf l)) place splits h = leb-true place (2 * splits) (passed _ tt _ _ h)
low_enough (refuses number details) place splits h = absurd (no_refusal h)

read : (o : Outcome Node) (place splits : ℕ) → placed o place splits ≡ gives tt → (node : Node) × (o ≡ gives node)
read (gives node) place splits h = (node, refl)
read (refuses number details) place splits h = absurd (no_refusal h)

-- ---- a sound list

module _ (words : List ℤ) (n : ℕ) (sound : shape_of words n ≡ gives tt) (some : 0 < n) where
  parts : (first_fault words n ≡ gives tt) × (complete words n ≡ gives tt)
  parts =
      let is_some : n ≡ 0 → ⊥ = λ e. omega arith in
      both_given (first_fault words n) (complete words n) (rw (ne_eqb n 0 is_some) at sound)

  -- no place has a fault, and the node at each is where it belongs
  pub no_fault : (k : ℕ) → k ≤ n → first_fault words k ≡ gives tt
  no_fault k h = faultless words k n parts.0 h

  pub well_placed : (k : ℕ) → k < n → placed (node_at words k) k (splits_before words k) ≡ gives tt
  unfolding first_fault
  well_placed k h = (both_given (first_fault words k) (placed (node_at words k) k (splits_before words k)) (no_fault (suc k) h)).1

  -- every node of the list is in form
  pub node_there : (k : ℕ) → k < n → (node : Node) × (node_at words k ≡ gives node)
  node_there k h = read (node_at words k) k (splits_before words k) (well_placed k h)

  -- split number j has the children 2j+1 and 2j+2
  pub children : (k : ℕ) {s : Split} → k < n → SplitAt words k s
      → (s.left ≡ 2 * splits_before words k + 1) × (s.right ≡ 2 * splits_before words k + 2)
  children k h split =
      let it = in_place (node_at words k) k (splits_before words k) split (well_placed k h) in
      (it.1, it.2)

  -- no place is above twice the splits before it
  pub not_above : (k : ℕ) → k < n → k ≤ 2 * splits_before words k
  not_above k h = low_enough (node_at words k) k (splits_before words k) (well_placed k h)

  -- a tree of so many splits has one leaf more
  pub whole_count : n ≡ 2 * splits_before words n + 1
  whole_count = last n refl
    where
      last : (m : ℕ) → n ≡ m → n ≡ 2 * splits_before words n + 1
      last zero e = absurd (omega arith)
      last (suc m) e =
          omega
          (arith, leb-true (2 * splits_before words n + 1) n (passed _ tt _ _ parts.1), not_above m (omega arith), more_places words m n (omega arith))

  -- the children of a split lie after it and inside
  pub inside : (k : ℕ) {s : Split} → k < n → SplitAt words k s → (k < s.left) × (s.left < n) × (s.right < n)
  inside k {s} h split =
      let are = children k h split in
      let later : splits_before words k + 1 ≤ splits_before words n = omega (arith, counted_in words k split, more_places words (suc k) n h) in
      (omega (arith, are, not_above k h), omega (arith, are, whole_count), omega (arith, are, whole_count))
