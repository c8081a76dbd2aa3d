-- One turn of the walk: the fuel of one node is used, and a split leads to a later place inside the list.
use borrow.Author.Tests.{ltb-true, eqb-true}
use lib.Dec.{ltb, eqb}
use lib.IntN.{ℤ, pos}
use lib.ListN.{length}
use lib.Signed.{lt_z}
use mathlib.Core.Bool.{Bool, true, false, ◌&&◌}
use mathlib.Core.List.{List, [], ◌∷◌}
use mathlib.Core.Path.{◌≡◌, refl}
use native.Mathlib.Omega.{arith}
use Prim.Native.Nat.{ℕ, suc, ◌+◌, ◌-◌, ◌<◌}
use Rattle.integer.proofs.Tests.{and_left, and_right}
use Rattle.integer.specs.Order.{if}
use Rattle.nodes.specs.Nodes.{word, node_at}
use Rattle.nodes.specs.declared.Split.{Split}
use Rattle.predict.specs.declared.neighbours.PredictionData.{PredictionData}
use Rattle.refusal.proofs.Outcomes.{same_given, no_refusal}
use Rattle.refusal.specs.Paper.{gives, refuses}
use Rattle.walk.specs.Walk.{answer_of, in_order, chosen, step_of, enter, walk_from}

-- an answer behind the two tests: the first held
tested : (a b : Bool) (m child four ten : ℕ) (fours tens : List ℤ) → if a (if b (gives m) (refuses ten tens)) (refuses four fours) ≡ gives child → (a ≡ true) × (m ≡ child)
tested true true m child four ten fours tens e = (refl, same_given e)
tested true false m child four ten fours tens e = absurd (no_refusal e)
tested false b m child four ten fours tens e = absurd (no_refusal e)

-- of two places beyond one and inside, either is
either : (t : Bool) (place left right n : ℕ) → place < left → right ≡ left + 1 → right < n → (place < if t left right) × (if t left right < n)
either true place left right n later beside inside = (later, omega arith)
either false place left right n later beside inside = (omega arith, inside)

-- where a split leads
pub leads_on : (cells : List ℤ) (n : ℕ) (s : Split) (place child : ℕ) → step_of cells n s place ≡ gives child → (place < child) × (child < n)
unfolding step_of
leads_on cells n s place child e =
    let (order, is) = tested (in_order s place n) (ltb s.property (length cells)) (chosen cells s) child 4 10 (pos place ∷ []) (pos (s.property + 1) ∷ []) e in
    let rest = and_right (ltb place s.left) (eqb s.right (s.left + 1) && ltb s.right n) order in
    rw (← is)
    (either (lt_z s.value (word cells s.property)) place s.left s.right n
    (ltb-true place s.left (and_left (ltb place s.left) _ order))
    (eqb-true s.right (s.left + 1) (and_left (eqb s.right (s.left + 1)) (ltb s.right n) rest))
    (ltb-true s.right n (and_right (eqb s.right (s.left + 1)) (ltb s.right n) rest)))

-- a walk that entered `hops` splits has that much fuel less
module _ (words cells : List ℤ) (n : ℕ) (d : PredictionData) (wp : ℤ) where
  pub turn : (place hops : ℕ) → hops < n
      → walk_from words cells n d wp (n - hops) place hops
      ≡ enter (λ s. step_of cells n s place) (λ l. answer_of l d wp hops) (node_at words place) hops (walk_from words cells n d wp (n - suc hops))
  unfolding walk_from
  turn place hops h =
      let less : n - hops ≡ suc (n - suc hops) = omega arith in
      rw less
