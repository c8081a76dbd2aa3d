-- `record_here` meets its contract: the first word says whether it is a leaf or a split, and what was read of it is wrapped.
use mathlib.Core.Path.{refl, sym, ap, ◌∙◌}
use mir.Syntax.{w32}
use mir.Val.{SFits}
use native.Mathlib.Omega.{arith}
use Rattle.nodes.specs.Nodes.{word}
use Rattle.refusal.proofs.Outcomes.{passed_on}
use Rattle.refusal.specs.Paper.{Outcome, said}
use Rattle.flat.specs.Records.{as_record}
use Rattle.flat.specs.declared.records.FlatLeaf.{FlatLeaf}
use Rattle.flat.specs.declared.records.FlatSplit.{FlatSplit}
use Rattle.flat.specs.declared.records.Record.TheVariants as record'
use Rattle.flat.proofs.Read.{leaf_here, split_here}
use Rattle.flat.proofs.form.record_here.Goals as goal

pub returns-in_err-leaf : goal.returns-in_err-leaf
returns-in_err-leaf c =
    let fit : SFits w32 (word c.args.words.now 0) = record { sfits = omega arith } in
    passed_on c.from_residual.result _ c.from_residual.ensures.1
    ∙ sym
    (leaf_here c.args.words.now c.args.place c.requires (word c.args.words.now 0) refl fit c.if-words.true
    ∙ ap (λ (o : Outcome FlatLeaf). as_record record'.Leaf o) (sym c.read_leaf.ensures ∙ ap said c.in_err-leaf.was))

pub returns-in_ok-leaf : goal.returns-in_ok-leaf
returns-in_ok-leaf c =
    let fit : SFits w32 (word c.args.words.now 0) = record { sfits = omega arith } in
    sym
    (leaf_here c.args.words.now c.args.place c.requires (word c.args.words.now 0) refl fit c.if-words.true
    ∙ ap (λ (o : Outcome FlatLeaf). as_record record'.Leaf o) (sym c.read_leaf.ensures ∙ ap said c.in_ok-leaf.was))

pub returns-in_err-split : goal.returns-in_err-split
returns-in_err-split c =
    let fit : SFits w32 (word c.args.words.now 0) = record { sfits = omega arith } in
    passed_on c.from_residual-in_err-split.result _ c.from_residual-in_err-split.ensures.1
    ∙ sym
    (split_here c.args.words.now c.args.place c.requires (word c.args.words.now 0) refl fit c.if-words.false
    ∙ ap (λ (o : Outcome FlatSplit). as_record record'.Split o) (sym c.read_split.ensures ∙ ap said c.in_err-split.was))

pub returns-in_ok-split : goal.returns-in_ok-split
returns-in_ok-split c =
    let fit : SFits w32 (word c.args.words.now 0) = record { sfits = omega arith } in
    sym
    (split_here c.args.words.now c.args.place c.requires (word c.args.words.now 0) refl fit c.if-words.false
    ∙ ap (λ (o : Outcome FlatSplit). as_record record'.Split o) (sym c.read_split.ensures ∙ ap said c.in_ok-split.was))
