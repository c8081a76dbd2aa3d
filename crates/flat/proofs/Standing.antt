-- Where a flat walk stands between two turns, and what the record there makes of it.
use lib.IntN.{ℤ, pos}
use lib.ListN.{length, take, drop, length-drop}
use lib.Seq.{get_or-drop}
use mathlib.Core.List.{List}
use mathlib.Core.Path.{◌≡◌, sym, ap, ◌∙◌}
use mir.Syntax.{w32}
use mir.Val.{SFits, of_z}
use native.Mathlib.Nat.{add-zero}
use native.Mathlib.Omega.{arith}
use Prim.Native.Nat.{ℕ, suc, ◌-◌, ◌*◌, ◌≤◌, ◌<◌}
use Rattle.nodes.proofs.Lists.{rest}
use Rattle.nodes.specs.Nodes.{word}
use Rattle.predict.specs.declared.neighbours.PredictionData.{PredictionData}
use Rattle.refusal.specs.Paper.{Outcome, gives, refuses}
use Rattle.walk.specs.Walk.{answer_of}
use Rattle.walk.specs.declared.PredictionResult.{PredictionResult}
use Rattle.flat.specs.FlatWalk.{as_leaf, step_of, enter, flat_from}
use Rattle.flat.specs.Records.{as_record, flat_leaf, flat_split, record_at}
use Rattle.flat.specs.declared.records.FlatLeaf.{FlatLeaf}
use Rattle.flat.specs.declared.records.FlatSplit.{FlatSplit}
use Rattle.flat.specs.declared.records.Record.{Record}
use Rattle.flat.specs.declared.records.Record.TheVariants as record'
use Rattle.flat.proofs.Read.{Small, leaf_here, split_here, properties_small}
use Rattle.flat.proofs.Turn.{leads_on, turn}

-- at a place inside the list, with at most one split record entered for each record before it; from there on, the walk answers `whole`
pub record Stands (words cells : List ℤ) (count : ℕ) (d : PredictionData) (wp : ℤ) (place hops : ℕ) (whole : Outcome PredictionResult) : Type 0 where
  pub long : length words ≡ 6 * count
  pub inside : place < count
  pub early : hops ≤ place
  pub on : flat_from words cells count d wp (count - hops) place hops ≡ whole

module _ {words cells : List ℤ} {count : ℕ} {d : PredictionData} {wp : ℤ} {place hops : ℕ} {whole : Outcome PredictionResult}
    (stands : Stands words cells count d wp place hops whole) where
  six_here : 6 ≤ length (drop (6 * place) words)
  six_here = omega (arith, length-drop (6 * place) words, stands.long, stands.inside)

  first_here : word (drop (6 * place) words) 0 ≡ word words (6 * place)
  first_here = get_or-drop (6 * place) words 0 (pos 0) ∙ ap (λ (k : ℕ). word words k) (add-zero (6 * place))

  abbrev entered : Outcome Record → Outcome PredictionResult
  entered o = enter (λ s. step_of cells count s place) (λ l. answer_of (as_leaf l) d wp hops) o hops (flat_from words cells count d wp (count - suc hops))

  turned : whole ≡ entered (record_at words place)
  turned = sym stands.on ∙ turn words cells count d wp place hops (omega (arith, stands.inside, stands.early))

  -- the first word of the record there, whose bits the code compares with those of -1
  module _ (fit : SFits w32 (word words (6 * place))) where
    module _ (minus_one : of_z w32 (word words (6 * place)) ≡ 4294967295) {read : Outcome FlatLeaf} (is_read : read ≡ flat_leaf (take (length words - 6 * place) (drop (6 * place) words)) place) where
      leafwise : whole ≡ entered (as_record record'.Leaf read)
      leafwise =
          turned
          ∙ ap (λ (o : Outcome Record). entered o)
          (leaf_here (drop (6 * place) words) place six_here (word words (6 * place)) first_here fit minus_one ∙ ap (as_record record'.Leaf) (sym (simp (rest words (6 * place)) at is_read)))

      pub leaf_refused : {number : ℕ} {details : List ℤ} → read ≡ refuses number details → refuses number details ≡ whole
      leaf_refused is = sym (leafwise ∙ ap (λ (o : Outcome FlatLeaf). entered (as_record record'.Leaf o)) is)

      pub answers_here : {l : FlatLeaf} → read ≡ gives l → gives (answer_of (as_leaf l) d wp hops) ≡ whole
      answers_here is = sym (leafwise ∙ ap (λ (o : Outcome FlatLeaf). entered (as_record record'.Leaf o)) is)

    module _ (other : of_z w32 (word words (6 * place)) ≡ 4294967295 → ⊥) {read : Outcome FlatSplit} (is_read : read ≡ flat_split (take (length words - 6 * place) (drop (6 * place) words)) place) where
      splitwise : whole ≡ entered (as_record record'.Split read)
      splitwise =
          turned
          ∙ ap (λ (o : Outcome Record). entered o)
          (split_here (drop (6 * place) words) place six_here (word words (6 * place)) first_here fit other ∙ ap (as_record record'.Split) (sym (simp (rest words (6 * place)) at is_read)))

      pub split_refused : {number : ℕ} {details : List ℤ} → read ≡ refuses number details → refuses number details ≡ whole
      split_refused is = sym (splitwise ∙ ap (λ (o : Outcome FlatSplit). entered (as_record record'.Split o)) is)

      module _ {s : FlatSplit} (is : read ≡ gives s) where
        pub properties_here : Small s
        properties_here = properties_small (drop (6 * place) words) place (sym (simp (rest words (6 * place)) at is_read) ∙ is)

        on_split : entered (gives (record'.Split s)) ≡ whole
        on_split = sym (splitwise ∙ ap (λ (o : Outcome FlatSplit). entered (as_record record'.Split o)) is)

        pub refused_next : {number : ℕ} {details : List ℤ} → step_of cells count s place ≡ refuses number details → refuses number details ≡ whole
        refused_next next = rw next at on_split

        pub stands_next : {at : ℕ} → step_of cells count s place ≡ gives at → (place < at) × Stands words cells count d wp at (suc hops) whole
        stands_next {at} next =
            let later = leads_on cells count s place at next in (
              later.0,
              record {
                long = stands.long;
                inside = later.1;
                early = omega (arith, later.0, stands.early);
                on = rw next at on_split;
              },
            )
