-- `read_node` meets its promise: each test decides one part of a node's form.
use borrow.Author.Tests.{lt-ltb, le-ltb, le-leb, lt-leb, eq-eqb, ne_eqb}
use lib.Dec.{ltb}
use lib.IntN.{ℤ}
use lib.ListN.{length}
use mathlib.Core.Bool.{true, false}
use mathlib.Core.List.{List}
use mathlib.Core.Path.{◌≡◌, sym, ◌∙◌}
use mir.Syntax.{w32}
use mir.Val.{of_z}
use Rattle.integer.proofs.Bounded.{held}
use Rattle.integer.proofs.Wrap.{bits_in_range}
use Rattle.integer.specs.Word.{bits_of}
use Rattle.nodes.specs.Nodes.{word, is_minus_one, node_of}
use Rattle.nodes.proofs.read_node.Goals as goal

pub returns-then-words-lt5 : goal.returns-then-words-lt5
unfolding node_of
returns-then-words-lt5 c = simp (lt-ltb _ _ c.if-words-lt5.true)

pub returns-then-first : goal.returns-then-first
unfolding node_of
returns-then-first c =
    let first : ℤ = word c.args.words.now 0 in
    let pattern : bits_of first ≡ of_z w32 first = bits_in_range first (record { sfits = c.first-1.given }) in
    let minus_one : is_minus_one first ≡ true = eq-eqb _ _ (pattern ∙ c.if-first.true) in
    let long : ltb (length c.args.words.now) 5 ≡ false = le-ltb _ _ c.if-words-lt5.false in
    simp (long, minus_one) c.read_leaf.ensures

pub returns-then-property-gt255 : goal.returns-then-property-gt255
unfolding node_of
returns-then-property-gt255 c =
    let first : ℤ = word c.args.words.now 0 in
    let pattern : bits_of first ≡ of_z w32 first = bits_in_range first (record { sfits = c.first-1.given }) in
    let no_leaf : is_minus_one first ≡ false = ne_eqb _ _ (λ e. c.if-first.false (sym pattern ∙ e)) in
    let long : ltb (length c.args.words.now) 5 ≡ false = le-ltb _ _ c.if-words-lt5.false in
    let is_property : c.to_bits-property.result ≡ bits_of first = simp (held w32 first c.first-1.given) at c.to_bits-property.ensures in
    simp (long, no_leaf, ← is_property, lt-leb _ _ c.if-property-gt255.true)

pub returns-then-words-ne0 : goal.returns-then-words-ne0
unfolding node_of
returns-then-words-ne0 c =
    let first : ℤ = word c.args.words.now 0 in
    let pattern : bits_of first ≡ of_z w32 first = bits_in_range first (record { sfits = c.first-1.given }) in
    let no_leaf : is_minus_one first ≡ false = ne_eqb _ _ (λ e. c.if-first.false (sym pattern ∙ e)) in
    let long : ltb (length c.args.words.now) 5 ≡ false = le-ltb _ _ c.if-words-lt5.false in
    let is_property : c.to_bits-property.result ≡ bits_of first = simp (held w32 first c.first-1.given) at c.to_bits-property.ensures in
    let fifth : ℤ = word c.args.words.now 4 in
    let fifth_pattern : bits_of fifth ≡ of_z w32 fifth = bits_in_range fifth (record { sfits = c.t12-1.given }) in
    let other = ne_eqb _ _ (λ e'. c.if-words-ne0.true (sym fifth_pattern ∙ e')) in
    simp (long, no_leaf, ← is_property, le-leb _ _ c.if-property-gt255.false, other)

pub returns : goal.returns
unfolding node_of
returns c =
    let first : ℤ = word c.args.words.now 0 in
    let pattern : bits_of first ≡ of_z w32 first = bits_in_range first (record { sfits = c.first-1.given }) in
    let no_leaf : is_minus_one first ≡ false = ne_eqb _ _ (λ e. c.if-first.false (sym pattern ∙ e)) in
    let long : ltb (length c.args.words.now) 5 ≡ false = le-ltb _ _ c.if-words-lt5.false in
    let is_property : c.to_bits-property.result ≡ bits_of first = simp (held w32 first c.first-1.given) at c.to_bits-property.ensures in
    let fifth : ℤ = word c.args.words.now 4 in
    let fifth_pattern : bits_of fifth ≡ of_z w32 fifth = bits_in_range fifth (record { sfits = c.t12-1.given }) in
    let given : List ℤ = c.args.words.now in
    let is_left : c.to_bits-left.result ≡ bits_of (word given 2) = simp (held w32 (word given 2) c.to_bits-arg-1.given) at c.to_bits-left.ensures in
    let is_right : c.to_bits-right.result ≡ bits_of (word given 3) = simp (held w32 (word given 3) c.to_bits-arg-2-1.given) at c.to_bits-right.ensures in
    let zero = eq-eqb _ _ (fifth_pattern ∙ c.if-words-ne0.false) in
    simp (
      long,
      no_leaf,
      ← is_property,
      le-leb _ _ c.if-property-gt255.false,
      zero,
      held w32 (word given 1) c.value-1.given,
      is_left,
      is_right,
    )
