-- `write_records` meets its contract: each turn writes the record of the first place that is queued.
use lib.IntN.{ℤ}
use lib.ListN.{length}
use mathlib.Core.List.{List}
use mathlib.Core.Path.{◌≡◌, refl, ap, ◌∙◌}
use native.Mathlib.Omega.{arith}
use Prim.Native.Nat.{◌+◌, ◌<◌}
use Rattle.validation.proofs.ToDo.{nodes, Sound, sound_list}
use Rattle.flatten.specs.Queue.{record_count}
use Rattle.flatten.specs.Ring.{ends, Takes}
use Rattle.flatten.proofs.Writing.{root_queued, all_written, fewer, place_here, record_room, few_queued, queue_room, one_more, records_few}
use Rattle.flatten.proofs.write_records.Goals as goal

pub put-requires : goal.put-requires
put-requires c =
    let room : length c.new-ring.result.words.now ≡ nodes c.args.words.now + 1 = ap length c.new-ring.ensures.words ∙ c.requires.1 in
    let first = c.new-ring.ensures.first in
    let none = c.new-ring.ensures.none in
    (record { starts = omega (arith, first, room); fits = omega (arith, none) }, omega (arith, none, room), omega arith)

pub loop-place-init : goal.loop-place-init
loop-place-init c =
    let roomy : length c.new-ring.result.words.now ≡ nodes c.args.words.now + 1 = ap length c.new-ring.ensures.words ∙ c.requires.1 in
    record {
      same = refl;
      writing = root_queued c.args.words.now (sound_list c.args.words.now c.requires.0) c.args.output.now c.requires.2 c.new-ring.ensures.none roomy c.put.ensures.puts;
    }

pub take-requires : goal.take-requires
take-requires c = c.loop-place.invariant.writing.ready

pub write_record-requires : goal.write_record-requires
write_record-requires c =
    let took : Takes (ends c.loop-place.ring) c.loop-place.ring.words.now c.in-Some.place (ends c.take.new.self) = rw c.in-Some.is at c.take.ensures.takes in
    let list : List ℤ = c.args.words.now in
    let given : List ℤ = c.args.output.now in
    let sound : Sound list = sound_list list c.requires.0 in
    let at = c.loop-place.invariant.writing in
    record {
      sound_list = (
        c.requires.0,
        place_here list sound given c.requires.2 at took,
        record_room list sound given c.requires.2 at took,
        few_queued list sound given c.requires.2 at took,
      );
      ready = rw c.take.ensures.words (took.ready, queue_room list sound given c.requires.2 at took);
    }

pub overflow_add-k : goal.overflow_add-k
overflow_add-k c =
    let took : Takes (ends c.loop-place.ring) c.loop-place.ring.words.now c.in-Some.place (ends c.take.new.self) = rw c.in-Some.is at c.take.ensures.takes in
    let list : List ℤ = c.args.words.now in
    let sound : Sound list = sound_list list c.requires.0 in
    let fewer_here : c.loop-place.k < record_count list (nodes list) = fewer list sound c.args.output.now c.requires.2 c.loop-place.invariant.writing took in
    omega (arith, fewer_here, records_few list sound)

pub loop-place-smaller : goal.loop-place-smaller
loop-place-smaller c =
    let took : Takes (ends c.loop-place.ring) c.loop-place.ring.words.now c.in-Some.place (ends c.take.new.self) = rw c.in-Some.is at c.take.ensures.takes in
    let list : List ℤ = c.args.words.now in
    let sound : Sound list = sound_list list c.requires.0 in
    let fewer_here : c.loop-place.k < record_count list (nodes list) = fewer list sound c.args.output.now c.requires.2 c.loop-place.invariant.writing took in
    omega (arith, fewer_here)

pub loop-place-preserved : goal.loop-place-preserved
loop-place-preserved c =
    let took : Takes (ends c.loop-place.ring) c.loop-place.ring.words.now c.in-Some.place (ends c.take.new.self) = rw c.in-Some.is at c.take.ensures.takes in
    let list : List ℤ = c.args.words.now in
    let sound : Sound list = sound_list list c.requires.0 in
    let at = c.loop-place.invariant.writing in
    record {
      same = c.write_record.ensures.same ∙ c.take.ensures.same ∙ c.loop-place.invariant.same;
      writing = one_more list sound c.args.output.now c.requires.2 at took (rw c.take.ensures.words at c.write_record.ensures.puts) c.write_record.ensures.output_after;
    }

pub returns : goal.returns
returns c =
    let list : List ℤ = c.args.words.now in
    let sound : Sound list = sound_list list c.requires.0 in
    let at = c.loop-place.invariant.writing in
    let none : c.loop-place.ring.queued ≡ 0 = (rw c.in_default.is at c.take.ensures.takes).0 in
    record { value = all_written list sound c.args.output.now c.requires.2 at none; output_after = at.written }
