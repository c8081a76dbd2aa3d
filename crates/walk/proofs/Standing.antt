-- Where a walk stands between two turns, and what the node there makes of it.
use lib.IntN.{ℤ}
use lib.ListN.{length, take, drop}
use mathlib.Core.List.{List}
use mathlib.Core.Path.{◌≡◌, sym, ap, ◌∙◌}
use native.Mathlib.Omega.{arith}
use Prim.Native.Nat.{ℕ, suc, ◌+◌, ◌-◌, ◌*◌, ◌≤◌, ◌<◌}
use Rattle.nodes.proofs.Read.{property_small}
use Rattle.nodes.specs.Nodes.{node_of, node_at}
use Rattle.nodes.specs.declared.Leaf.{Leaf}
use Rattle.nodes.specs.declared.Node.{Node}
use Rattle.nodes.specs.declared.Node.TheVariants as node
use Rattle.nodes.specs.declared.Split.{Split}
use Rattle.predict.specs.declared.neighbours.PredictionData.{PredictionData}
use Rattle.refusal.specs.Paper.{Outcome, gives, refuses}
use Rattle.walk.specs.Walk.{answer_of, step_of, enter, walk_from}
use Rattle.walk.specs.declared.PredictionResult.{PredictionResult}
use Rattle.walk.proofs.Five.{own_words}
use Rattle.walk.proofs.Turn.{leads_on, turn}

-- at a place inside the list, with at most one split entered for each node before it; from there on, the walk answers `whole`
pub record Stands (words cells : List ℤ) (n : ℕ) (d : PredictionData) (wp : ℤ) (place hops : ℕ) (whole : Outcome PredictionResult) : Type 0 where
  pub long : length words ≡ 5 * n
  pub inside : place < n
  pub early : hops ≤ place
  pub on : walk_from words cells n d wp (n - hops) place hops ≡ whole

module _ {words cells : List ℤ} {n : ℕ} {d : PredictionData} {wp : ℤ} {place hops : ℕ} {whole : Outcome PredictionResult}
    (stands : Stands words cells n d wp place hops whole) {read : Outcome Node} (is_read : read ≡ node_of (take (5 * place + 5 - 5 * place) (drop (5 * place) words)) place) where
  here : read ≡ node_at words place
  here =
      let wide : 5 * place + 5 - 5 * place ≡ 5 = omega arith in
      (simp wide at is_read) ∙ own_words words place (omega (arith, stands.long, stands.inside))

  abbrev entered : Outcome Node → Outcome PredictionResult
  entered o = enter (λ s. step_of cells n s place) (λ l. answer_of l d wp hops) o hops (walk_from words cells n d wp (n - suc hops))

  turned : whole ≡ entered read
  turned = sym stands.on ∙ turn words cells n d wp place hops (omega (arith, stands.inside, stands.early)) ∙ ap (λ (o : Outcome Node). entered o) (sym here)

  pub refused_here : {number : ℕ} {details : List ℤ} → read ≡ refuses number details → refuses number details ≡ whole
  refused_here is = sym (turned ∙ ap (λ (o : Outcome Node). entered o) is)

  pub answers_here : {l : Leaf} → read ≡ gives (node.Leaf l) → gives (answer_of l d wp hops) ≡ whole
  answers_here is = sym (turned ∙ ap (λ (o : Outcome Node). entered o) is)

  module _ {s : Split} (is : read ≡ gives (node.Split s)) where
    pub property_here : s.property < 256
    property_here = property_small (drop (5 * place) words) place (sym here ∙ is)

    pub refused_next : {number : ℕ} {details : List ℤ} → step_of cells n s place ≡ refuses number details → refuses number details ≡ whole
    refused_next next = let t : whole ≡ entered (gives (node.Split s)) = turned ∙ ap (λ (o : Outcome Node). entered o) is in rw next at (sym t)

    pub stands_next : {child : ℕ} → step_of cells n s place ≡ gives child → (place < child) × Stands words cells n d wp child (suc hops) whole
    stands_next {child} next =
        let later = leads_on cells n s place child next in
        let t : whole ≡ entered (gives (node.Split s)) = turned ∙ ap (λ (o : Outcome Node). entered o) is in (
          later.0,
          record {
            long = stands.long;
            inside = later.1;
            early = omega (arith, later.0, stands.early);
            on = rw next at (sym t);
          },
        )
