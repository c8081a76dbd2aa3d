-- Demand 3, second half, of the definitions: over a sound list whose offsets fit, with cells that cover it, the direct walk and the flat walk
-- over its records end at one leaf.
use borrow.Author.Tests.{le-ltb, le-leb, ne_eqb, eq-eqb}
use lib.IntN.{ℤ}
use lib.ListN.{length}
use mathlib.Core.List.{List}
use mathlib.Core.Logic.{inl}
use mathlib.Core.Path.{◌≡◌, refl, ap, ◌∙◌}
use native.Mathlib.Omega.{arith}
use Prim.Native.Nat.{ℕ, ◌+◌, ◌/◌, ◌%◌, ◌≤◌, ◌<◌}
use Rattle.predict.specs.declared.neighbours.PredictionData.{PredictionData}
use Rattle.refusal.specs.Paper.{gives}
use Rattle.validation.specs.Reach.{root, start}
use Rattle.validation.specs.Shape.{shape_of}
use Rattle.walk.specs.Walk.{answer_of, walk_from, walk_by}
use Rattle.flat.specs.FlatWalk.{flat_by, flat_of}
use Rattle.flat.specs.Records.{counted}
use Rattle.flatten.proofs.Counts.{place_of, output_room}
use Rattle.flatten.proofs.Flat.{words_long}
use Rattle.flatten.specs.Queue.{queued, record_count}
use Rattle.flatten.specs.Records.{record_words}
use Rattle.agreement.specs.Covers.{Covers, EndsAt, OffsetsFit}
use Rattle.agreement.proofs.Flat.{Stands, Alike, ends_alike}

module _
    (words : List ℤ) (n : ℕ) (sound : shape_of words n ≡ gives tt) (some : 0 < n) (cells : List ℤ) (covers : Covers words n cells) (d : PredictionData) (wp : ℤ)
    (few : n ≤ 1048575) (offsets : OffsetsFit words n)
  where
    -- the root's record
    first_place : place_of words 0 ≡ 0
    unfolding queued
    first_place = refl

    both_start : Stands words n sound some cells covers d wp few offsets (walk_from words cells n d wp n 0 0) 0 0
    both_start = record { depth = 0; lies = root; walks = start; fuel = n; enough = omega arith; same = refl; half = inl refl }

    both : Alike words n sound some cells covers d wp few offsets (walk_from words cells n d wp n 0 0) (record_count words n) 0 0
    both = ends_alike words n sound some cells covers d wp few offsets (walk_from words cells n d wp n 0 0) (record_count words n) 0 0 (omega arith) (omega arith) (rw first_place both_start)

    pub counted_records : counted (record_words words (record_count words n)) ≡ gives (record_count words n)
    counted_records =
        let long = words_long words n sound some (record_count words n) (omega arith) in
        let even : length (record_words words (record_count words n)) % 6 ≡ 0 = omega (arith, long) in
        let whole : length (record_words words (record_count words n)) / 6 ≡ record_count words n = omega (arith, long) in
        simp (eq-eqb _ _ even, whole, le-leb (record_count words n) 2097149 (omega (arith, few, output_room words n sound some)))

    pub record Agree : Type 0 where
      pub end : EndsAt words n cells
      pub direct : walk_by (gives n) words cells d wp ≡ gives (answer_of end.leaf d wp end.depth)
      pub flatly : flat_of (record_words words (record_count words n)) cells d wp ≡ gives (answer_of end.leaf d wp ((end.depth + 1) / 2))

    pub agree : Agree
    agree =
        let some_nodes = ne_eqb n 0 (λ e. omega (arith, e)) in
        let some_records = ne_eqb (record_count words n) 0 (λ e. omega (arith, e)) in
        let enough = le-ltb (length cells) 16 covers.sixteen in
        record {
          end = both.end;
          direct = rw (some_nodes, enough) both.direct;
          flatly = ap (λ o. flat_by o (record_words words (record_count words n)) cells d wp) counted_records ∙ rw (some_records, enough) both.flatly;
        }
