-- `records_of` meets its contract: the output has as many words as before, and its first ones are the records.
use borrow.Author.Rules.{rules}
use borrow.Author.Tests.{eq-eqb}
use lib.IntN.{ℤ, pos}
use lib.ListN.{length, drop, length-append, replicate, length-replicate}
use mathlib.Core.List.{List, ◌++◌}
use mathlib.Core.Path.{◌≡◌, sym, ap, ◌∙◌}
use native.Mathlib.Decide.{dec_lt}
use native.Mathlib.Omega.{arith}
use Prim.Native.Nat.{ℕ, ◌*◌, ◌≤◌, ◌<◌}
use Rattle.flatten.proofs.Answered.{answered_shape, answered_count}
use Rattle.flatten.proofs.Flat.{words_long}
use Rattle.flatten.specs.Flatten.{flattening, output_after}
use Rattle.flatten.specs.Records.{record_words}
use Rattle.refusal.proofs.Outcomes.{same_given}
use Rattle.refusal.specs.Paper.{Outcome, gives, said}
use Rattle.refusal.specs.declared.Refusal.{Refusal}
use Rattle.std.specs.Prelude.{Result, Ok, Err, IfOk}
use Rattle.validation.proofs.Sound.{both_given}
use Rattle.validation.proofs.ToDo.{nodes, sound_list}
use Rattle.validation.specs.Shape.{shape}
use Rattle.unpack.proofs.tree.records_of.Goals as goal

module _ (words : List ℤ) (room : ℕ) (output output' : List ℤ) (kept : length output' ≡ length output) where
  module _ {count : ℕ} (answers : gives count ≡ flattening words room (length output))
      (writes : output' ≡ output_after (flattening words room (length output)) words output) where
    -- no nodes, no records
    none : length words ≡ 0 → count ≡ 0
    none e =
        let empty = eq-eqb (length words) 0 e in
        sym (same_given (rw empty at (both_given (shape words) _ (sym answers)).1))

    some : 0 < length words → 6 * count ≤ length output
    some h =
        let lent : List ℤ = replicate room (pos 0) in
        let told : gives count ≡ flattening words (length lent) (length output) = answers ∙ ap (λ (n : ℕ). flattening words n (length output)) (sym (length-replicate room (pos 0))) in
        let sound = sound_list words (answered_shape words lent output told h, h) in
        let long = words_long words (nodes words) sound.shaped sound.some count (omega (arith, answered_count words lent output told h)) in
        let written : output' ≡ record_words words count ++ drop (6 * count) output = writes ∙ ap (λ (o : Outcome ℕ). output_after o words output) (sym answers) in
        omega (arith, kept, long, ap length written, length-append (record_words words count) (drop (6 * count) output))

    by : Dec (0 < length words) → 6 * count ≤ length output
    by (yes h) = some h
    by (no h) = omega (arith, none (omega arith))

  fit : (r : Result ℕ Refusal) → said r ≡ flattening words room (length output) → output' ≡ output_after (flattening words room (length output)) words output
      → IfOk r (λ count. 6 * count ≤ length output)
  fit (Ok count) answers writes = by answers writes (dec_lt 0 (length words))
  fit (Err refusal) answers writes = tt

pub returns-clause-within : goal.returns-clause-within
returns-clause-within c = fit c.args.nodes.now 8192 c.args.records.now _ (search rules) c.build_flat_tree.result c.build_flat_tree.ensures.answers c.build_flat_tree.ensures.writes
