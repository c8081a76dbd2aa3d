-- `restore_parts` meets its contract. The loop's invariant: the planes are restored up to `start`, and as they were from there on.
use lib.IntN.{ℤ}
use lib.ListN.{length, take, drop, length-take, length-drop}
use mathlib.Core.List.{List, ◌++◌}
use mathlib.Core.Path.{◌≡◌, refl, sym, ap, subst, ◌∙◌}
use native.Mathlib.Omega.{arith}
use Prim.Native.Nat.{ℕ, ◌+◌, ◌-◌, ◌≤◌}
use Rattle.integer.proofs.Fill.{filled_length, filled_none}
use Rattle.colour.specs.Restore.{first, second, third, Written}
use Rattle.colour.proofs.Planes.{next}
use Rattle.colour.proofs.restore.restore_parts.Goals as goal

-- a part inside a plane has all its words
part_long : (s e : ℕ) (plane : List ℤ) → s ≤ e → e ≤ length plane → length (take (e - s) (drop s plane)) ≡ e - s
part_long s e plane h k = simp (length-take, length-drop) (omega arith)

-- what is written of the parts, with the planes said by the invariant
moved : (op ord s k : ℕ) (new_a new_b new_c : List ℤ) {a b c a' b' c' : List ℤ} → a ≡ a' → b ≡ b' → c ≡ c'
    → Written op ord (take k (drop s a)) (take k (drop s b)) (take k (drop s c)) new_a new_b new_c
    → Written op ord (take k (drop s a')) (take k (drop s b')) (take k (drop s c')) new_a new_b new_c
moved op ord s k new_a new_b new_c {a} {b} {c} {a'} {b'} {c'} ea eb ec w =
    subst (λ (x : List ℤ). Written op ord (take k (drop s x)) (take k (drop s b')) (take k (drop s c')) new_a new_b new_c) ea
    (subst (λ (x : List ℤ). Written op ord (take k (drop s a)) (take k (drop s x)) (take k (drop s c')) new_a new_b new_c) eb
    (subst (λ (x : List ℤ). Written op ord (take k (drop s a)) (take k (drop s b)) (take k (drop s x)) new_a new_b new_c) ec w))

pub loop-start-init : goal.loop-start-init
loop-start-init c = (omega arith, refl, omega arith, omega arith, sym (filled_none _ _), sym (filled_none _ _), sym (filled_none _ _))

pub loop-start-preserved : goal.loop-start-preserved
loop-start-preserved c =
    -- the planes keep their length
    let long_a : length c.loop-start.a ≡ length c.args.a.now =
    let within : c.loop-start.start ≤ length c.args.a.now = omega arith in
    ap length c.loop-start.invariant.4 ∙ filled_length _ _ _ within in
    let k = c.part_end-end.result - c.loop-start.start in
    let op = c.args.operation in
    let ord = c.args.order in
    let a₀ = c.args.a.now in
    let b₀ = c.args.b.now in
    let c₀ = c.args.c.now in
    let end : c.loop-start.start + k ≡ c.part_end-end.result = omega (arith, c.part_end-end.ensures) in
    let wide = part_long c.loop-start.start c.part_end-end.result c.loop-start.a (omega (arith, c.part_end-end.ensures)) (omega (arith, c.part_end-end.ensures, long_a)) in
    let new_a = c.restore_part.new.a in
    let new_b = c.restore_part.new.b in
    let new_c = c.restore_part.new.c in
    let w =
    moved op ord c.loop-start.start k new_a new_b new_c c.loop-start.invariant.4 c.loop-start.invariant.5 c.loop-start.invariant.6 c.restore_part.ensures in
    let width = ap (λ (x : List ℤ). length (take k (drop c.loop-start.start x))) (sym c.loop-start.invariant.4) ∙ wide in (
      omega (arith, c.part_end-end.ensures),
      omega arith,
      omega arith,
      omega arith,
      ap (λ (x : List ℤ). take c.loop-start.start x ++ (new_a ++ drop k (drop c.loop-start.start x))) c.loop-start.invariant.4
          ∙ next op ord c.loop-start.start k a₀ b₀ c₀ first a₀ new_a _ c.part_end-end.result width end w.first_is,
      ap (λ (x : List ℤ). take c.loop-start.start x ++ (new_b ++ drop k (drop c.loop-start.start x))) c.loop-start.invariant.5
          ∙ next op ord c.loop-start.start k a₀ b₀ c₀ second b₀ new_b _ c.part_end-end.result width end w.second_is,
      ap (λ (x : List ℤ). take c.loop-start.start x ++ (new_c ++ drop k (drop c.loop-start.start x))) c.loop-start.invariant.6
          ∙ next op ord c.loop-start.start k a₀ b₀ c₀ third c₀ new_c _ c.part_end-end.result width end w.third_is,
    )
