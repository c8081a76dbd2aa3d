-- The fuel of a walk is for the recursion only: any two that cover the places ahead give the same walk.
use lib.IntN.{ℤ}
use mathlib.Core.List.{List}
use mathlib.Core.Path.{◌≡◌, refl}
use native.Mathlib.Omega.{arith}
use Prim.Native.Nat.{ℕ, zero, suc, ◌+◌, ◌≤◌, ◌<◌}
use Rattle.nodes.specs.Nodes.{node_at}
use Rattle.nodes.specs.declared.Leaf.{Leaf}
use Rattle.nodes.specs.declared.Node.{Node}
use Rattle.nodes.specs.declared.Node.TheVariants as node
use Rattle.nodes.specs.declared.Split.{Split}
use Rattle.predict.specs.declared.neighbours.PredictionData.{PredictionData}
use Rattle.refusal.specs.Paper.{Outcome, gives, refuses}
use Rattle.walk.specs.Walk.{answer_of, step_of, onward, enter, walk_from}
use Rattle.walk.specs.declared.PredictionResult.{PredictionResult}
use Rattle.walk.proofs.Turn.{leads_on}

-- two ways on that agree wherever the step leads
module _ (hops : ℕ) (f g : ℕ → ℕ → Outcome PredictionResult) where
  onward_same : (o : Outcome ℕ) → ((child : ℕ) → o ≡ gives child → f child (suc hops) ≡ g child (suc hops)) → onward o hops f ≡ onward o hops g
  onward_same (gives child) agree = agree child refl
  onward_same (refuses number details) agree = refl

  enter_same : (step : Split → Outcome ℕ) (answer : Leaf → PredictionResult) (o : Outcome Node)
      → ((s : Split) (child : ℕ) → step s ≡ gives child → f child (suc hops) ≡ g child (suc hops))
      → enter step answer o hops f ≡ enter step answer o hops g
  enter_same step answer (gives (node.Split s)) agree = onward_same (step s) (agree s)
  enter_same step answer (gives (node.Leaf l)) agree = refl
  enter_same step answer (refuses number details) agree = refl

module _ (words cells : List ℤ) (n : ℕ) (d : PredictionData) (wp : ℤ) where
  pub fuel_enough : (fuel other place hops : ℕ) → place < n → n ≤ fuel + place → n ≤ other + place
      → walk_from words cells n d wp fuel place hops ≡ walk_from words cells n d wp other place hops
  unfolding walk_from
  fuel_enough zero other place hops inside enough covers = absurd (omega arith)
  fuel_enough (suc fuel) zero place hops inside enough covers = absurd (omega arith)
  fuel_enough (suc fuel) (suc other) place hops inside enough covers =
      enter_same hops (walk_from words cells n d wp fuel) (walk_from words cells n d wp other) (λ s. step_of cells n s place) (λ l. answer_of l d wp hops) (node_at words place)
      (λ s child e.
      let later = leads_on cells n s place child e in
      fuel_enough fuel other child (suc hops) later.1 (omega (arith, later.0)) (omega (arith, later.0)))
