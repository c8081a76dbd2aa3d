-- A turn of the visit: down to a leaf, left first, then up to a split whose right side is still to be visited.
use lib.IntN.{ℤ}
use mathlib.Core.List.{List}
use mathlib.Core.Path.{◌≡◌, refl, sym, ap, subst, ◌∙◌}
use native.Mathlib.Omega.{arith}
use Prim.Native.Nat.{ℕ, suc, ◌+◌, ◌-◌, ◌<◌}
use Rattle.std.proofs.Common.{Result, Ok, Err, Some, None}
use Rattle.refusal.specs.Paper.{gives, paper, said}
use Rattle.refusal.specs.declared.Refusal.{Refusal}
use Rattle.validation.specs.Frames.{Step, entering, entered_work, frame_in, back_of, back_work}
use Rattle.validation.specs.Verdict.{SoundList}
use Rattle.validation.proofs.Sound.{node_there}
use Rattle.validation.proofs.Steps.{Kept, kept_none, kept_on, at_leaf_lem, at_refusal, goes_down, Visiting, Rising, none_pending, left_upward, left_rightward}
use Rattle.validation.proofs.ToDo.{nodes, Sound, sound_list, pending_in, to_do, cost_above, cost, Above, Entry, entry_told}

-- a visit that goes on from where another stands
pub visit_on : {words a b c : List ℤ} {p d p' d' p'' d'' : ℕ} → Visiting words a p d b p' d' → Visiting words b p' d' c p'' d'' → Visiting words a p d c p'' d''
visit_on v w =
    record {
      here = w.here;
      above = w.above;
      kept = kept_on v.kept w.kept;
      same_to_do = w.same_to_do ∙ v.same_to_do;
      no_more = omega (arith, w.no_more, v.no_more);
    }

-- one up from a depth that is not 0
one_up : (depth : ℕ) → (depth ≡ 0 → ⊥) → depth ≡ suc (depth - 1)
one_up depth h = omega (arith, h)

-- back at a split whose right side is visited already
pub rises : {words after work work' : List ℤ} {start depth : ℕ} → SoundList words → Rising words after start work depth → (depth ≡ 0 → ⊥)
    → None ≡ back_of (frame_in work (depth - 1)) → work' ≡ back_work (frame_in work (depth - 1)) (depth - 1) work
    → Rising words after start work' (depth - 1)
rises {words} {after} {work} {work'} {start} {depth} list rising deeper back is =
    let it = left_upward words (sound_list words list) depth (depth - 1) (one_up depth deeper) work rising.above back is in
    record {
      above = it.above;
      kept = kept_on rising.kept it.kept;
      same_pending = it.same_pending ∙ rising.same_pending;
      no_more = omega (arith, it.no_more, rising.no_more);
    }

-- the node at the place is entered
module _ {words first work after : List ℤ} {first_place first_depth place depth : ℕ} (r : Result Step Refusal)
    (list : SoundList words) (so_far : Visiting words first first_place first_depth work place depth)
    (step : said r ≡ entering words place depth work) (leaves : after ≡ entered_work words place depth work) where
  sound : Sound words
  sound = sound_list words list

  met : Entry words place depth work (said r) after
  met = entry_told words place depth work (node_there words (nodes words) sound.shaped sound.some place so_far.here) step leaves

  -- a split: on with its left side
  pub went_left : (left : ℕ) → r ≡ Ok (Some left) → Visiting words first first_place first_depth after left (depth + 1) × (cost words left (depth + 1) after < cost words place depth work)
  went_left left e =
      let d = goes_down words sound place depth work so_far.here so_far.above (rw (ap said e) at met) in
      let next : Visiting words work place depth after left (depth + 1) = record { here = d.there; above = d.below; kept = d.kept; same_to_do = d.same_to_do; no_more = omega (arith, d.less) } in
      (visit_on so_far next, d.less)

  -- a refusal: it is the whole answer
  pub was_refused : (refusal : Refusal) → r ≡ Err refusal → (to_do words first_place first_depth first ≡ paper refusal) × Kept first after
  was_refused refusal e =
      let it = at_refusal words sound place depth work so_far.here so_far.above (rw (ap said e) at met) in
      (sym so_far.same_to_do ∙ it.1, subst (λ (w : List ℤ). Kept first w) (sym it.0) so_far.kept)

  -- a leaf: up from there
  module _ (is_leaf : r ≡ Ok None) where
    leaf : (after ≡ work) × (to_do words place depth work ≡ pending_in words depth work) × (cost_above words depth work < cost words place depth work)
    leaf = at_leaf_lem words sound place depth work so_far.here so_far.above (rw (ap said is_leaf) at met)

    pub rising_starts : Rising words after depth after depth
    rising_starts =
        record {
          above = subst (λ (w : List ℤ). Above words depth w) (sym leaf.0) so_far.above;
          kept = kept_none after;
          same_pending = refl;
          no_more = omega arith;
        }

    module _ {work' : List ℤ} {depth' : ℕ} (rising : Rising words after depth work' depth') where
      pub kept_since : Kept first work'
      kept_since = kept_on so_far.kept (kept_on (subst (λ (w : List ℤ). Kept work w) (sym leaf.0) (kept_none work)) rising.kept)

      pending_since : pending_in words depth' work' ≡ to_do words first_place first_depth first
      pending_since = rising.same_pending ∙ ap (λ (w : List ℤ). pending_in words depth w) leaf.0 ∙ sym leaf.1 ∙ so_far.same_to_do

      less_since : cost_above words depth' work' < cost words first_place first_depth first
      less_since =
          let same = ap (λ (w : List ℤ). cost_above words depth w) leaf.0 in
          omega (arith, rising.no_more, same, leaf.2, so_far.no_more)

      -- at the root: all is done
      pub all_done : depth' ≡ 0 → gives tt ≡ to_do words first_place first_depth first
      all_done top = sym (none_pending words depth' work' top) ∙ pending_since

      -- on with a right side
      pub went_right : {right : ℕ} {next : List ℤ} → (depth' ≡ 0 → ⊥)
          → Some right ≡ back_of (frame_in work' (depth' - 1)) → next ≡ back_work (frame_in work' (depth' - 1)) (depth' - 1) work'
          → Visiting words first first_place first_depth next right depth' × (cost words right depth' next < cost words first_place first_depth first)
      went_right deeper back is =
          let it = left_rightward words sound depth' (depth' - 1) (one_up depth' deeper) work' rising.above back is in (
            record { here = it.here; above = it.below; kept = kept_on kept_since it.kept; same_to_do = it.same_to_do ∙ pending_since; no_more = omega (arith, it.no_more, less_since) },
            omega (arith, it.no_more, less_since),
          )
