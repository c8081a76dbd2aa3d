-- `build_flat_tree` meets its promise: the ring is clear where records were written.
use borrow.Author.Tests.{eq-eqb, ne_eqb}
use lib.IntN.{ℤ, pos}
use lib.ListN.{length, drop, take, replicate, length-append}
use lib.Seq.{length-take-le, drop_at}
use mathlib.Core.List.{List, ◌++◌}
use mathlib.Core.Path.{◌≡◌, sym, ap, ap₂, ◌∙◌}
use native.Mathlib.Omega.{arith}
use Prim.Native.Nat.{ℕ, ◌+◌, ◌/◌}
use Rattle.std.proofs.Common.{Ok}
use Rattle.std.proofs.lemmas.Grind.{common_steps}
use Rattle.integer.specs.Fill.{tabulate}
use Rattle.refusal.specs.Paper.{Outcome, gives, said}
use Rattle.validation.proofs.Answers.{zeroes}
use Rattle.validation.specs.Shape.{shape}
use Rattle.flatten.specs.Flatten.{ring_after}
use Rattle.flatten.specs.Offsets.{first_wide}
use Rattle.flatten.specs.Queue.{record_count}
use Rattle.flatten.specs.Records.{record_words}
use Rattle.flatten.proofs.Answers.{flattened}
use Rattle.flatten.proofs.build_flat_tree.Goals as goal

pub returns-then-is_empty-clause-writes : goal.returns-then-is_empty-clause-writes
unfolding record_words
returns-then-is_empty-clause-writes c =
    let is : c.check_shape.result ≡ Ok tt = grind arith in
    let shaped : shape c.args.words.now ≡ gives tt = sym c.check_shape.ensures ∙ ap said is in
    let none : length c.args.words.now ≡ 0 = grind (arith, common_steps) in
    simp (shaped, eq-eqb _ _ none)

pub returns-clause-leaves : goal.returns-clause-leaves
returns-clause-leaves c =
    let words : List ℤ = c.args.words.now in
    let ring : List ℤ = c.args.ring.now in
    let n : ℕ = length words / 5 in
    let lent : List ℤ = c.write_records-records.new.lent in
    let sound : c.check_shape.result ≡ Ok tt = grind arith in
    let fit : c.check_offsets.result ≡ Ok tt = grind arith in
    let shaped : shape words ≡ gives tt = sym c.check_shape.ensures ∙ ap said sound in
    let narrow : first_wide words n ≡ gives tt = sym c.check_offsets.ensures ∙ ap said fit in
    let some : length words ≡ 0 → ⊥ = λ e. grind (arith, common_steps, e) in
    let answer = flattened words (length ring) (length c.args.output.now) shaped some narrow c.if-ring-n.false c.if-output-most.false in
    let long : length lent ≡ n + 1 = c.write_records-records.auto.lent ∙ length-take-le (n + 1) ring c.if-ring-n.false in
    let part : length (take (n + 1) (lent ++ drop (n + 1) ring)) ≡ n + 1 = length-take-le (n + 1) _ (omega (arith, long, length-append lent (drop (n + 1) ring))) in
    let zeros : c.fill.new.self ≡ replicate (length (take (n + 1) (lent ++ drop (n + 1) ring))) (pos 0) = grind (arith, common_steps) in
    let cleared : c.fill.new.self ≡ tabulate (λ i. pos 0) (n + 1) = zeros ∙ ap (λ (k : ℕ). replicate k (pos 0)) part ∙ sym (zeroes (n + 1)) in
    let after : ring_after (gives (record_count words n)) words ring ≡ tabulate (λ i. pos 0) (n + 1) ++ drop (n + 1) ring = simp (ne_eqb _ _ some) in
    ap₂ (λ (a b : List ℤ). a ++ b) cleared (drop_at lent (drop (n + 1) ring) (n + 1) long)
    ∙ sym (ap (λ (o : Outcome ℕ). ring_after o words ring) answer ∙ after)
