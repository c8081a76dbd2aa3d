-- Demand 3, second half, said of the promises of `validate_tree`, `build_flat_tree` and the two walks.
use borrow.Author.Tests.{le-ltb, le-leb, eq-eqb, ne_eqb}
use lib.Dec.{ltb, eqb}
use lib.IntN.{ℤ, pos, negsuc}
use lib.ListN.{length, take, drop}
use lib.Seq.{take_at}
use lib.Signed.{mag}
use mathlib.Core.Bool.{false}
use mathlib.Core.List.{List}
use mathlib.Core.Path.{◌≡◌, refl, sym, ap, ◌∙◌}
use native.Mathlib.Omega.{arith}
use Prim.Native.Nat.{ℕ, zero, suc, ◌+◌, ◌*◌, ◌/◌, ◌%◌, ◌≤◌, ◌<◌}
use Rattle.integer.specs.Order.{if}
use Rattle.nodes.specs.Nodes.{node_at, then, counted}
use Rattle.nodes.specs.declared.Node.{Node}
use Rattle.nodes.specs.declared.Node.TheVariants as node
use Rattle.predict.specs.declared.neighbours.PredictionData.{PredictionData}
use Rattle.refusal.specs.Paper.{Outcome, gives, said, one_result}
use Rattle.refusal.specs.declared.Refusal.{Refusal}
use Rattle.std.proofs.Common.{Result, Ok}
use Rattle.validation.proofs.Sound.{both_given, node_there}
use Rattle.validation.proofs.ToDo.{nodes, Sound, sound_list}
use Rattle.validation.specs.Shape.{shape, shape_of}
use Rattle.validation.specs.Validation.{validation}
use Rattle.walk.specs.Walk.{answer_of, walk_of, walk_by, walk_determined}
use Rattle.walk.specs.declared.PredictionResult.{PredictionResult}
use Rattle.flat.specs.FlatWalk.{flat_of}
use Rattle.flatten.specs.Flatten.{ring_needed, output_needed, flattening, flattening_of, output_after}
use Rattle.flatten.specs.Offsets.{judged, offset_of, first_wide}
use Rattle.flatten.specs.Queue.{record_count}
use Rattle.flatten.specs.Records.{record_words}
use Rattle.flatten.proofs.Flat.{words_long}
use Rattle.agreement.specs.Covers.{Covers, EndsAt, OffsetsFit}
use Rattle.agreement.proofs.Agree.{agree}

-- ---- offsets that fit are not refused

judged_fits : (z : ℤ) (place : ℕ) → mag z < 32768 → judged z place ≡ gives tt
judged_fits (pos a) place h = let low : ltb 32767 a ≡ false = le-ltb 32767 a (omega arith) in rw low
judged_fits (negsuc a) place h = let low : ltb 32767 a ≡ false = le-ltb 32767 a (omega arith) in rw low

module _ (words : List ℤ) (n : ℕ) (sound : shape_of words n ≡ gives tt) (some : 0 < n) (offsets : OffsetsFit words n) where
  fits_by : (place : ℕ) → place < n → (m : Node) → node_at words place ≡ gives m → offset_of (node_at words place) place ≡ gives tt
  fits_by place h (node.Leaf l) is = ap (λ (o : Outcome Node). offset_of o place) is ∙ judged_fits l.offset place (offsets.fit h is)
  fits_by place h (node.Split s) is = ap (λ (o : Outcome Node). offset_of o place) is

  none_wide : (k : ℕ) → k ≤ n → first_wide words k ≡ gives tt
  unfolding first_wide
  none_wide zero h = refl
  none_wide (suc k) h =
      let there = node_there words n sound some k h in
      ap (λ (o : Outcome Unit). then o (offset_of (node_at words k) k)) (none_wide k (omega arith)) ∙ fits_by k h there.0 there.1

-- ---- the theorem

pub record BothWalks (words cells : List ℤ) (d : PredictionData) (wp : ℤ) (r : Result ℕ Refusal) (direct flatly : Result PredictionResult Refusal) : Type 0 where
  pub end : EndsAt words (nodes words) cells
  pub flattens : r ≡ Ok (record_count words (nodes words))
  pub walks : direct ≡ Ok (answer_of end.leaf d wp end.depth)
  pub walks_flat : flatly ≡ Ok (answer_of end.leaf d wp ((end.depth + 1) / 2))

-- For an accepted list that is not empty, whose offsets fit 16 bits, with a ring and an output that are large enough and cells that cover its
-- properties: flattening gives its records, the direct walk over the nodes and the flat walk over those records are not refused, and
-- both end at one leaf, so with equal guess, multiplier and context; where that lies at depth d, after d hops and after d/2 rounded up.
module _ (words work : List ℤ) (accepted : said {A = Unit} (Ok tt) ≡ validation words (length work)) (some : 0 < length words) where
  accepted_shape : shape words ≡ gives tt
  accepted_shape = (both_given (shape words) _ (sym accepted)).0

  pub sound : Sound words
  sound = sound_list words (accepted_shape, some)

  pub counted_nodes : counted words ≡ gives (nodes words)
  counted_nodes =
      let even : length words % 5 ≡ 0 = omega (arith, sound.whole) in
      simp (eq-eqb _ _ even, le-leb (nodes words) 1048575 sound.few)

  module _ (ring output : List ℤ) (offsets : OffsetsFit words (nodes words)) (ring_room : ring_needed (nodes words) ≤ length ring) (output_room : output_needed (nodes words) ≤ length output) where
    gives_records : flattening words (length ring) (length output) ≡ gives (record_count words (nodes words))
    gives_records =
        let there = ne_eqb (length words) 0 (λ e. omega (arith, e)) in
        let narrow = none_wide words (nodes words) sound.shaped sound.some offsets (nodes words) (omega arith) in
        let rest : flattening_of words (nodes words) (length ring) (length output) ≡ gives (record_count words (nodes words)) =
        rw (narrow, le-ltb (length ring) (ring_needed (nodes words)) ring_room, le-ltb (length output) (output_needed (nodes words)) output_room)
        in
        ap (λ (o : Outcome Unit). then o (if (eqb (length words) 0) (gives 0) (flattening_of words (nodes words) (length ring) (length output)))) accepted_shape
        ∙ rw there rest

    -- what the flat walk is lent: the records that were written
    records_lent : {output' : List ℤ} → output' ≡ output_after (flattening words (length ring) (length output)) words output
        → take (6 * record_count words (nodes words)) output' ≡ record_words words (record_count words (nodes words))
    records_lent writes =
        let count = record_count words (nodes words) in
        ap (take (6 * count)) (writes ∙ ap (λ (o : Outcome ℕ). output_after o words output) gives_records)
        ∙ take_at (record_words words count) (drop (6 * count) output) (6 * count) (words_long words (nodes words) sound.shaped sound.some count (omega arith))

    pub demand_3 : {output' cells : List ℤ} {d : PredictionData} {wp : ℤ} {r : Result ℕ Refusal} {direct flatly : Result PredictionResult Refusal}
        → said r ≡ flattening words (length ring) (length output)
        → output' ≡ output_after (flattening words (length ring) (length output)) words output
        → Covers words (nodes words) cells
        → said direct ≡ walk_of words cells d wp
        → said flatly ≡ flat_of (take (6 * record_count words (nodes words)) output') cells d wp
        → BothWalks words cells d wp r direct flatly
    demand_3 {output'} {cells} {d} {wp} {r} {direct} {flatly} answers writes covers told told_flat =
        let both = agree words (nodes words) sound.shaped sound.some cells covers d wp sound.few offsets in
        let direct_is = told ∙ ap (λ (o : Outcome ℕ). walk_by o words cells d wp) counted_nodes ∙ both.direct in
        let flat_is = told_flat ∙ ap (λ (l : List ℤ). flat_of l cells d wp) (records_lent writes) ∙ both.flatly in
        record {
          end = both.end;
          flattens = one_result r _ answers (sym gives_records);
          walks = walk_determined direct _ direct_is refl;
          walks_flat = walk_determined flatly _ flat_is refl;
        }
