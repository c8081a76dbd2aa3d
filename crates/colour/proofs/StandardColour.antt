-- The library's step is the standard's, for all 42 types and every triple: rct_type is 7 · order + operation.
use mathlib.Core.Path.{◌≡◌, refl, ap, ◌∙◌}
use native.Mathlib.Omega.{arith}
use Prim.Native.Nat.{ℕ, zero, suc, ◌+◌, ◌*◌, ◌/◌, ◌%◌, ◌<◌}
use Rattle.colour.specs.declared.restore.Triple.{Triple}
use Rattle.colour.specs.Restore.{operate, reorder, image}
use Rattle.colour.specs.Standard.{transformed, permuted, inverse}

operation_is : (k : ℕ) → k < 7 → (t : Triple) → transformed k t ≡ operate k t
operation_is zero h t = refl
operation_is (suc zero) h t = refl
operation_is (suc (suc zero)) h t = refl
operation_is (suc (suc (suc zero))) h t = refl
operation_is (suc (suc (suc (suc zero)))) h t = refl
operation_is (suc (suc (suc (suc (suc zero))))) h t = refl
operation_is (suc (suc (suc (suc (suc (suc zero)))))) h t = refl
operation_is (suc (suc (suc (suc (suc (suc (suc k))))))) h t = absurd (omega arith)

order_is : (p : ℕ) → p < 6 → (t : Triple) → permuted p t ≡ reorder p t
order_is zero h t = refl
order_is (suc zero) h t = refl
order_is (suc (suc zero)) h t = refl
order_is (suc (suc (suc zero))) h t = refl
order_is (suc (suc (suc (suc zero)))) h t = refl
order_is (suc (suc (suc (suc (suc zero))))) h t = refl
order_is (suc (suc (suc (suc (suc (suc p)))))) h t = absurd (omega arith)

-- The restore step of type rct is operation rct Umod 7 in order rct Idiv 7.
pub step_is_standard : (rct : ℕ) → rct < 42 → (t : Triple) → inverse rct t ≡ image (rct % 7) (rct / 7) t
step_is_standard rct h t =
    let few : rct / 7 < 6 = omega arith in
    let type : rct % 7 < 7 = omega arith in
    ap (permuted (rct / 7)) (operation_is (rct % 7) type t) ∙ order_is (rct / 7) few (operate (rct % 7) t)

-- The other way round: every operation and order is the type 7 · order + operation.
pub type_of_step : (operation order : ℕ) → operation < 7 → order < 6 → (t : Triple)
    → (7 * order + operation < 42) × (inverse (7 * order + operation) t ≡ image operation order t)
type_of_step operation order ho hr t =
    let all : 7 * order + operation < 42 = omega arith in
    let op : (7 * order + operation) % 7 ≡ operation = omega arith in
    let ord : (7 * order + operation) / 7 ≡ order = omega arith in
    (all, step_is_standard (7 * order + operation) all t ∙ simp (op, ord))
