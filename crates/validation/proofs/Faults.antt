-- Place after place: what one node more says of the first fault and of the count of splits.
use lib.Dec.{leb}
use lib.IntN.{ℤ, pos}
use mathlib.Core.Bool.{Bool, true, false}
use mathlib.Core.List.{List, [], ◌∷◌}
use mathlib.Core.Path.{◌≡◌, refl, sym, ap}
use native.Mathlib.Decide.{dec_lt}
use native.Mathlib.Nat.{add-zero}
use native.Mathlib.Numerals.{add-one}
use native.Mathlib.Omega.{arith}
use Prim.Native.Nat.{ℕ, zero, suc, ◌+◌, ◌*◌, ◌≤◌, ◌<◌}
use Rattle.integer.specs.Order.{if}
use Rattle.nodes.specs.Nodes.{node_at}
use Rattle.nodes.specs.declared.Node.{Node}
use Rattle.nodes.specs.declared.Node.TheVariants as node
use Rattle.refusal.proofs.Outcomes.{same_given, no_refusal}
use Rattle.refusal.specs.Paper.{Outcome, gives, refuses}
use Rattle.validation.specs.Shape.{in_place, placed, splits_with, splits_in, splits_before, first_fault}

abbrev as_unit : {A : Type 0} → Outcome A → Outcome Unit
as_unit (gives a) = gives tt
as_unit (refuses number details) = refuses number details

-- ---- a node that was placed, and one that was not

given_if : (t : Bool) (m n number : ℕ) (details : List ℤ) → if t (gives m) (refuses number details) ≡ gives n → (t ≡ true) × (n ≡ m)
given_if true m n number details e = (refl, sym (same_given e))
given_if false m n number details e = absurd (no_refusal e)

pub placed_well : (o : Outcome Node) (place splits m : ℕ) → splits_with o place splits ≡ gives m → (placed o place splits ≡ gives tt) × (m ≡ splits + splits_in o)
placed_well (refuses number details) place splits m e = absurd (no_refusal e)
placed_well (gives (node.Leaf l)) place splits m e = let g = given_if (leb place (2 * splits)) splits m 4 (pos place ∷ []) e in (rw g.0, rw g.1 (sym (add-zero splits)))
placed_well (gives (node.Split s)) place splits m e = let g = given_if (in_place (node.Split s) place splits) (splits + 1) m 4 (pos place ∷ []) e in (rw g.0, g.1)

refused_if : (t : Bool) (m number : ℕ) (details : List ℤ) {k : ℕ} {ds : List ℤ} → if t (gives m) (refuses number details) ≡ refuses k ds
    → ◌≡◌ {A = Outcome Unit} (if t (gives tt) (refuses number details)) (refuses k ds)
refused_if true m number details e = absurd (no_refusal (sym e))
refused_if false m number details e = ap as_unit e

pub placed_ill : (o : Outcome Node) (place splits : ℕ) {number : ℕ} {details : List ℤ} → splits_with o place splits ≡ refuses number details → placed o place splits ≡ refuses number details
placed_ill (refuses number details) place splits e = ap as_unit e
placed_ill (gives (node.Leaf l)) place splits e = refused_if (leb place (2 * splits)) splits 4 (pos place ∷ []) e
placed_ill (gives (node.Split s)) place splits e = refused_if (in_place (node.Split s) place splits) (splits + 1) 4 (pos place ∷ []) e

-- ---- one place more

module _ (words : List ℤ) where
  pub next_splits : (place : ℕ) → splits_before words (place + 1) ≡ splits_before words place + splits_in (node_at words place)
  unfolding splits_before
  next_splits place = rw (add-one place)

  pub next_fault : (place : ℕ) → first_fault words place ≡ gives tt → first_fault words (suc place) ≡ placed (node_at words place) place (splits_before words place)
  unfolding first_fault
  next_fault place e = rw e

  -- the lowest fault counts
  pub fault_stays : (k n : ℕ) {number : ℕ} {details : List ℤ} → first_fault words k ≡ refuses number details → k ≤ n → first_fault words n ≡ refuses number details
  unfolding first_fault
  fault_stays k zero e h = let is : k ≡ 0 = omega arith in rw is at e
  fault_stays k (suc n) {number} {details} e h = last (fault_stays k n e) (dec_lt n k)
    where
      last : (k ≤ n → first_fault words n ≡ refuses number details) → Dec (n < k) → first_fault words (suc n) ≡ refuses number details
      last before (yes l) = let is : k ≡ suc n = omega arith in rw is at e
      last before (no l) = rw (before (omega arith))
