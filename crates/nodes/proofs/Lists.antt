-- What a list of nodes is told by: its count, and its words from a place on.
use borrow.Author.Tests.{leb-true, eqb-true}
use lib.Dec.{leb, eqb}
use lib.IntN.{ℤ, pos}
use lib.ListN.{length, take, drop, length-drop}
use lib.Seq.{take_all}
use mathlib.Core.Bool.{Bool, true, false}
use mathlib.Core.List.{List, [], ◌∷◌}
use mathlib.Core.Path.{◌≡◌, refl}
use native.Mathlib.Omega.{arith}
use Prim.Native.Nat.{ℕ, ◌-◌, ◌*◌, ◌/◌, ◌%◌, ◌≤◌}
use Rattle.integer.specs.Order.{if}
use Rattle.refusal.proofs.Outcomes.{same_given, no_refusal}
use Rattle.refusal.specs.Paper.{gives, refuses}
use Rattle.nodes.specs.Nodes.{counted, most_nodes}

-- an answer behind the two tests: both held
tested : (a b : Bool) (m n : ℕ) → if a (if b (gives m) (refuses 2 (pos 0 ∷ []))) (refuses 1 (pos 0 ∷ [])) ≡ gives n → (a ≡ true) × (b ≡ true) × (m ≡ n)
tested true true m n e = (refl, refl, same_given e)
tested true false m n e = absurd (no_refusal e)
tested false b m n e = absurd (no_refusal e)

-- counted nodes have five words each, and are not too many
pub counted_fits : (words : List ℤ) (n : ℕ) → counted words ≡ gives n → (length words ≡ 5 * n) × (n ≤ most_nodes)
counted_fits words n e =
    let (fives, few, is) = tested (eqb (length words % 5) 0) (leb (length words / 5) most_nodes) (length words / 5) n e in
    (omega (arith, eqb-true (length words % 5) 0 fives), omega (arith, leb-true (length words / 5) most_nodes few))

-- the part from n on is what is left there
pub rest : (words : List ℤ) (n : ℕ) → take (length words - n) (drop n words) ≡ drop n words
rest words n = take_all (length words - n) (drop n words) (omega (arith, length-drop n words))
