-- `mask_of` meets its contract: the bits of the first k nodes are gathered, and the first refusal stands.
use lib.IntN.{ℤ}
use mathlib.Core.List.{List}
use mathlib.Core.Path.{◌≡◌, sym, ◌∙◌}
use native.Mathlib.Decide.{le_ind}
use native.Mathlib.Omega.{arith}
use Prim.Native.Nat.{ℕ, suc, ◌*◌, ◌≤◌}
use Rattle.std.proofs.Common.{Err}
use Rattle.refusal.proofs.Outcomes.{passed_on}
use Rattle.refusal.specs.Paper.{gives, refuses, said}
use Rattle.nodes.specs.Mask.{mask_up_to, with_node}
use Rattle.nodes.specs.Nodes.{node_at}
use Rattle.nodes.proofs.Lists.{rest}
use Rattle.nodes.proofs.mask.mask_of.Goals as goal

-- what is refused stays refused
stays : (words : List ℤ) (k n : ℕ) {number : ℕ} {details : List ℤ} → mask_up_to words k ≡ refuses number details → k ≤ n → mask_up_to words n ≡ refuses number details
stays words k n {number} {details} e h =
    le_ind (λ (m : ℕ). mask_up_to words m ≡ refuses number details) e (λ m l same. rw same) n h

pub returns-in_err-node : goal.returns-in_err-node
returns-in_err-node c =
    let given : List ℤ = c.args.words.now in
    let at : ℕ = c.loop-k.k in
    let is_node : said c.read_node.result ≡ node_at given at = simp (rest given (5 * at)) at c.read_node.ensures in
    let more : mask_up_to given (suc at) ≡ with_node (gives c.loop-k.mask) (said c.read_node.result) = rw (c.loop-k.invariant.1, is_node) in
    let refused : c.read_node.result ≡ Err c.in_err-node.field-0.0 = grind arith in
    passed_on c.from_residual.result _ c.from_residual.ensures.1 ∙ sym (stays given (suc at) c.args.nodes (more ∙ (rw refused)) (omega arith))
