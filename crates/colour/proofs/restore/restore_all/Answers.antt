use Rattle.std.proofs.Common.{◌≡◌, sym, ap, ap₂, ◌∙◌, arith, ◌<◌, pos, length, slice_set, w32, to_z, of_z}
use lib.ListN.{get_or}
use Rattle.integer.proofs.Fill.{filled_none, filled_more, filled_ahead}
use Rattle.colour.specs.Restore.{first, second, third, at, image, reorder}
use Rattle.colour.proofs.restore.restore_all.Goals as goal

pub loop-i-init : goal.loop-i-init
loop-i-init c = (sym (filled_none _ _), sym (filled_none _ _), sym (filled_none _ _))

pub loop-i-preserved : goal.loop-i-preserved
loop-i-preserved c =
    let i = c.loop-i.i in
    let a = c.args.a.now in
    let b = c.args.b.now in
    let cc = c.args.c.now in
    let read_a : to_z w32 (of_z w32 (get_or c.loop-i.a i (pos 0))) ≡ get_or c.loop-i.a i (pos 0) = grind arith in
    let read_b : to_z w32 (of_z w32 (get_or c.loop-i.b i (pos 0))) ≡ get_or c.loop-i.b i (pos 0) = grind arith in
    let read_c : to_z w32 (of_z w32 (get_or c.loop-i.c i (pos 0))) ≡ get_or c.loop-i.c i (pos 0) = grind arith in
    let is_a = read_a ∙ (ap (λ d. get_or d i (pos 0)) c.loop-i.invariant.0 ∙ filled_ahead _ _ _ _) in
    let is_b = read_b ∙ (ap (λ d. get_or d i (pos 0)) c.loop-i.invariant.1 ∙ filled_ahead _ _ _ _) in
    let is_c = read_c ∙ (ap (λ d. get_or d i (pos 0)) c.loop-i.invariant.2 ∙ filled_ahead _ _ _ _) in
    let r = c.reordered-image.result in
    let image_is : r ≡ image c.args.operation c.args.order (at a b cc i) = c.reordered-image.ensures ∙ ap (reorder c.args.order) (simp (is_a, is_b, is_c) at c.operated.ensures) in
    let wrote_a : to_z w32 (of_z w32 r.a) ≡ r.a = grind arith in
    let wrote_b : to_z w32 (of_z w32 r.b) ≡ r.b = grind arith in
    let wrote_c : to_z w32 (of_z w32 r.c) ≡ r.c = grind arith in
    let below_a : i < length a = omega arith in
    let below_b : i < length b = omega arith in
    let below_c : i < length cc = omega arith in (
      ap₂ (λ d v. slice_set d i v) c.loop-i.invariant.0 (wrote_a ∙ ap first image_is) ∙ filled_more _ _ _ below_a,
      ap₂ (λ d v. slice_set d i v) c.loop-i.invariant.1 (wrote_b ∙ ap second image_is) ∙ filled_more _ _ _ below_b,
      ap₂ (λ d v. slice_set d i v) c.loop-i.invariant.2 (wrote_c ∙ ap third image_is) ∙ filled_more _ _ _ below_c,
    )
