-- One turn of the flat walk: the fuel of one record is used, and a split leads to a later place inside the list.
use borrow.Author.Tests.{ltb-true}
use lib.Dec.{ltb, leb}
use lib.IntN.{ℤ, pos}
use lib.ListN.{length}
use mathlib.Core.Bool.{Bool, true, false}
use mathlib.Core.List.{List, [], ◌∷◌}
use mathlib.Core.Path.{◌≡◌, refl}
use native.Mathlib.Omega.{arith}
use Prim.Native.Nat.{ℕ, suc, ◌+◌, ◌-◌, ◌≤◌, ◌<◌}
use Rattle.integer.proofs.Tests.{and_left, and_right}
use Rattle.integer.specs.Order.{if}
use Rattle.predict.specs.declared.neighbours.PredictionData.{PredictionData}
use Rattle.refusal.proofs.Outcomes.{same_given, no_refusal}
use Rattle.refusal.specs.Paper.{gives, refuses}
use Rattle.walk.specs.Walk.{answer_of}
use Rattle.flat.specs.FlatWalk.{as_leaf, in_order, cells_needed, is_over, grandchild, step_of, enter, flat_from}
use Rattle.flat.specs.Records.{record_at}
use Rattle.flat.specs.declared.records.FlatSplit.{FlatSplit}

-- an answer behind the two tests: the first held
tested : (a b : Bool) (m at four ten : ℕ) (fours tens : List ℤ) → if a (if b (gives m) (refuses ten tens)) (refuses four fours) ≡ gives at → (a ≡ true) × (m ≡ at)
tested true true m at four ten fours tens e = (refl, same_given e)
tested true false m at four ten fours tens e = absurd (no_refusal e)
tested false b m at four ten fours tens e = absurd (no_refusal e)

one_of_four : (a b c : Bool) → if a (if b 0 1) (if c 2 3) ≤ 3
one_of_four true true c = omega arith
one_of_four true false c = omega arith
one_of_four false b true = omega arith
one_of_four false b false = omega arith

pub grandchild_small : (cells : List ℤ) (s : FlatSplit) → grandchild cells s ≤ 3
grandchild_small cells s =
    one_of_four (is_over cells s.property s.value) (is_over cells s.left_property s.left_value) (is_over cells s.right_property s.right_value)

-- where a split leads
pub leads_on : (cells : List ℤ) (count : ℕ) (s : FlatSplit) (place at : ℕ) → step_of cells count s place ≡ gives at → (place < at) × (at < count)
unfolding step_of
leads_on cells count s place at e =
    let (order, is) = tested (in_order s place count) (leb (cells_needed s) (length cells)) (s.first + grandchild cells s) at 4 10 (pos place ∷ []) (pos (cells_needed s) ∷ []) e in
    let later = ltb-true place s.first (and_left (ltb place s.first) (ltb (s.first + 3) count) order) in
    let inside = ltb-true (s.first + 3) count (and_right (ltb place s.first) (ltb (s.first + 3) count) order) in
    let small = grandchild_small cells s in
    (omega (arith, is, later), omega (arith, is, inside, small))

-- a walk that entered `hops` split records has that much fuel less
module _ (words cells : List ℤ) (count : ℕ) (d : PredictionData) (wp : ℤ) where
  pub turn : (place hops : ℕ) → hops < count
      → flat_from words cells count d wp (count - hops) place hops
      ≡ enter (λ s. step_of cells count s place) (λ l. answer_of (as_leaf l) d wp hops) (record_at words place) hops (flat_from words cells count d wp (count - suc hops))
  unfolding flat_from
  turn place hops h =
      let less : count - hops ≡ suc (count - suc hops) = omega arith in
      rw less
