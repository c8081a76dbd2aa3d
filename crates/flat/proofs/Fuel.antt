-- The fuel of a flat walk is for the recursion only: any two that cover the places ahead give the same walk.
use lib.IntN.{ℤ}
use mathlib.Core.List.{List}
use mathlib.Core.Path.{◌≡◌, refl}
use native.Mathlib.Omega.{arith}
use Prim.Native.Nat.{ℕ, zero, suc, ◌+◌, ◌≤◌, ◌<◌}
use Rattle.predict.specs.declared.neighbours.PredictionData.{PredictionData}
use Rattle.refusal.specs.Paper.{Outcome, gives, refuses}
use Rattle.walk.specs.Walk.{answer_of, onward}
use Rattle.walk.specs.declared.PredictionResult.{PredictionResult}
use Rattle.flat.specs.FlatWalk.{as_leaf, step_of, enter, flat_from}
use Rattle.flat.specs.Records.{record_at}
use Rattle.flat.specs.declared.records.FlatLeaf.{FlatLeaf}
use Rattle.flat.specs.declared.records.FlatSplit.{FlatSplit}
use Rattle.flat.specs.declared.records.Record.{Record}
use Rattle.flat.specs.declared.records.Record.TheVariants as record'
use Rattle.flat.proofs.Turn.{leads_on}

-- two ways on that agree wherever the step leads
module _ (hops : ℕ) (f g : ℕ → ℕ → Outcome PredictionResult) where
  onward_same : (o : Outcome ℕ) → ((at : ℕ) → o ≡ gives at → f at (suc hops) ≡ g at (suc hops)) → onward o hops f ≡ onward o hops g
  onward_same (gives at) agree = agree at refl
  onward_same (refuses number details) agree = refl

  enter_same : (step : FlatSplit → Outcome ℕ) (answer : FlatLeaf → PredictionResult) (o : Outcome Record)
      → ((s : FlatSplit) (at : ℕ) → step s ≡ gives at → f at (suc hops) ≡ g at (suc hops))
      → enter step answer o hops f ≡ enter step answer o hops g
  enter_same step answer (gives (record'.Split s)) agree = onward_same (step s) (agree s)
  enter_same step answer (gives (record'.Leaf l)) agree = refl
  enter_same step answer (refuses number details) agree = refl

module _ (words cells : List ℤ) (count : ℕ) (d : PredictionData) (wp : ℤ) where
  pub fuel_enough : (fuel other place hops : ℕ) → place < count → count ≤ fuel + place → count ≤ other + place
      → flat_from words cells count d wp fuel place hops ≡ flat_from words cells count d wp other place hops
  unfolding flat_from
  fuel_enough zero other place hops inside enough covers = absurd (omega arith)
  fuel_enough (suc fuel) zero place hops inside enough covers = absurd (omega arith)
  fuel_enough (suc fuel) (suc other) place hops inside enough covers =
      enter_same hops (flat_from words cells count d wp fuel) (flat_from words cells count d wp other) (λ s. step_of cells count s place) (λ l. answer_of (as_leaf l) d wp hops) (record_at words place)
      (λ s at e.
      let later = leads_on cells count s place at e in
      fuel_enough fuel other at (suc hops) later.1 (omega (arith, later.0)) (omega (arith, later.0)))
