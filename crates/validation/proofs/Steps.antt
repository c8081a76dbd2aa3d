-- One step of the visit's loops: what is still to do stays the same, and fewer nodes are left to enter.
use borrow.Author.Tests.{ne_eqb}
use lib.Dec.{eqb}
use lib.IntN.{ℤ, pos}
use lib.ListN.{length, set, drop, length-set}
use lib.Seq.{take-set-le, drop-set-lt}
use mathlib.Core.Bool.{Bool, true, false}
use mathlib.Core.List.{List}
use mathlib.Core.Path.{◌≡◌, refl, sym, ap, subst, ◌∙◌}
use native.Mathlib.Decide.{dec_lt}
use native.Mathlib.Numerals.{add-one}
use native.Mathlib.Omega.{arith}
use Prim.Native.Nat.{ℕ, suc, ◌+◌, ◌-◌, ◌≤◌, ◌<◌}
use Rattle.integer.specs.Order.{if}
use Rattle.nodes.proofs.Read.{property_small}
use Rattle.nodes.specs.Nodes.{then, node_at}
use Rattle.nodes.specs.declared.Node.TheVariants as node
use Rattle.nodes.specs.declared.Split.{Split}
use Rattle.refusal.specs.Paper.{Outcome, gives, refuses}
use Rattle.std.proofs.Common.{Some, None}
use Rattle.validation.specs.Visit.{left_of, right_of, empty_side, visit, entered, levels, all_ranges}
use Rattle.validation.specs.Frames.{Frame, frame_in, base, ranges, at_leaf, down, descended, restored, narrowed, back_of, back_work, Sits, Framed, RightFits}
use Rattle.validation.proofs.Sound.{inside, children}
use Rattle.validation.proofs.Pending.{then_then, then_done, pending, pending_agree, cost_agree, pending_right, pending_up, cost_right, cost_up, frame_above, visited, last_word, sides_held, ranges_restored, ranges_narrowed, restored_frame, narrowed_frame, restored_beyond, narrowed_beyond, restored_after, found, restored_left, narrowed_left, descended_frame, descended_other, descended_ranges, descended_beyond, descended_length}
use Rattle.validation.proofs.ToDo.{nodes, Sound, pending_in, to_do, cost_above, cost, Above, visit_here, entered_here, entered_one, Entry, met_leaf, went_down, met_refusal}

pub record Kept (work work' : List ℤ) : Type 0 where
  pub same : length work' ≡ length work
  pub beyond : drop 10762 work' ≡ drop 10762 work

pub kept_none : (work : List ℤ) → Kept work work
kept_none work = record { same = refl; beyond = refl }

pub kept_on : {a b c : List ℤ} → Kept a b → Kept b c → Kept a c
kept_on p q = record { same = q.same ∙ p.same; beyond = q.beyond ∙ p.beyond }

module _ (words : List ℤ) (sound : Sound words) where
  -- the right child of a split is a node, and is not the root
  right_child : (place : ℕ) {s : Split} → place < nodes words → node_at words place ≡ gives (node.Split s) → (s.right < nodes words) × (s.right ≡ 0 → ⊥)
  right_child place h is =
      let are = children words (nodes words) sound.shaped sound.some place h is in
      ((inside words (nodes words) sound.shaped sound.some place h is).2, λ e. omega (arith, are, e))

  pub right_fits : (place : ℕ) → place < nodes words → RightFits words place
  right_fits place h s is = omega (arith, right_child place h is, sound.few)

  module _ (place depth : ℕ) (work : List ℤ) (here : place < nodes words) (above : Above words depth work) where
    -- a leaf: on with what is above
    pub at_leaf_lem : {work' : List ℤ} → Entry words place depth work (gives at_leaf) work'
        → (work' ≡ work) × (to_do words place depth work ≡ pending_in words depth work) × (cost_above words depth work < cost words place depth work)
    at_leaf_lem (met_leaf h is) = (
      refl,
      rw (visit_here words place depth (ranges work) h, is),
      omega (arith, entered_one words (2049 - depth) place),
    )

    -- a refusal: it is the whole answer
    pub at_refusal : {number : ℕ} {details : List ℤ} {work' : List ℤ} → Entry words place depth work (refuses number details) work'
        → (work' ≡ work) × (to_do words place depth work ≡ refuses number details)
    at_refusal (met_refusal e) = (refl, rw e)

    -- a split: on with its left side, its right side pending
    pub record Down (place' depth' : ℕ) (work' : List ℤ) : Type 0 where
      pub there : place' < nodes words
      pub below : Above words depth' work'
      pub kept : Kept work work'
      pub same_to_do : to_do words place' depth' work' ≡ to_do words place depth work
      pub less : cost words place' depth' work' < cost words place depth work

    module _ (s : Split) (h : depth ≤ 2048) (is : node_at words place ≡ gives (node.Split s)) (some : empty_side s work ≡ false) where
      small : s.property < 256
      small = property_small _ _ is

      right_here : (s.right < nodes words) × (s.right ≡ 0 → ⊥)
      right_here = right_child place here is

      abbrev next : List ℤ
      next = descended s depth work

      right_word : s.right < 4294967296
      right_word = omega (arith, right_here.0, sound.few)

      frame_here : frame_in next depth ≡ found s (ranges work)
      frame_here = descended_frame s depth work small right_word h above.roomy

      frames_above : (e : ℕ) → e < depth → frame_in next e ≡ frame_in work e
      frames_above = descended_other s depth work small right_word h above.roomy

      ranges_next : ranges next ≡ left_of s (ranges work)
      ranges_next = descended_ranges s depth work small right_word h above.roomy

      not_done : eqb s.right 0 ≡ false
      not_done = ne_eqb _ _ right_here.1

      below_pending : pending_in words (suc depth) next ≡ then (visit words (2048 - depth) s.right (right_of s (ranges work))) (pending_in words depth work)
      below_pending =
          pending_right words depth (found s (ranges work)) (frame_in next) frame_here not_done (ranges next)
          ∙ rw (ranges_next, narrowed_left s (ranges work), restored_left s (ranges work))
          (ap (λ (o : Outcome Unit). then (visit words (2048 - depth) s.right (right_of s (ranges work))) o)
          (pending_agree words depth (ranges work) (frame_in next) (frame_in work) frames_above))

      below_cost : cost_above words (suc depth) next ≡ entered words (2048 - depth) s.right + cost_above words depth work
      below_cost =
          cost_right words depth (found s (ranges work)) (frame_in next) frame_here not_done
          ∙ ap (λ (k : ℕ). entered words (2048 - depth) s.right + k) (cost_agree words depth (frame_in next) (frame_in work) frames_above)

      sides_visited : visit words (2049 - depth) place (ranges work) ≡ then (visit words (2048 - depth) s.left (left_of s (ranges work))) (visit words (2048 - depth) s.right (right_of s (ranges work)))
      sides_visited = visit_here words place depth (ranges work) h ∙ rw (is, sides_held s work small ∙ some)

      counted_here : entered words (2049 - depth) place ≡ 1 + (entered words (2048 - depth) s.left + entered words (2048 - depth) s.right)
      counted_here = entered_here words place depth h ∙ rw is

      one_level : 2049 - suc depth ≡ 2048 - depth
      one_level = omega arith

      framed_next : (e : ℕ) → e < suc depth → Dec (e < depth) → Sits (nodes words) (frame_in next e)
      framed_next e l (yes m) = subst (Sits (nodes words)) (sym (frames_above e m)) (above.framed e m)
      framed_next e l (no m) =
          let is_last : e ≡ depth = omega arith in
          subst (Sits (nodes words)) (sym (ap (frame_in next) is_last ∙ frame_here)) (small, right_here.0)

      down_there : Down s.left (suc depth) next
      down_there =
          record {
            there = (inside words (nodes words) sound.shaped sound.some place here is).1;
            below =
                record {
                  deep = omega arith;
                  roomy = omega (arith, above.roomy, descended_length s depth work small right_word h above.roomy);
                  framed = λ e l. framed_next e l (dec_lt e depth);
                };
            kept = record { same = descended_length s depth work small right_word h above.roomy; beyond = descended_beyond s depth work small right_word h above.roomy };
            same_to_do = rw (below_pending, ranges_next, one_level, sides_visited) (sym (then_then (visit words (2048 - depth) s.left (left_of s (ranges work))) (visit words (2048 - depth) s.right (right_of s (ranges work))) (pending_in words depth work)));
            less = rw (below_cost, one_level, counted_here) (omega arith);
          }

    pub goes_down : {place' : ℕ} {work' : List ℤ} → Entry words place depth work (gives (down place')) work' → Down place' (depth + 1) work'
    goes_down (went_down {s} h is some) = rw (add-one depth) (down_there s h is some)

  -- back at the split above: up, or on with its right side
  module _ (split_depth : ℕ) (work : List ℤ) (above : Above words (suc split_depth) work) where
    abbrev frame : Frame
    frame = frame_in work split_depth

    sits : Sits (nodes words) frame
    sits = above.framed split_depth (omega arith)

    pub record Upward (work' : List ℤ) : Type 0 where
      pub higher : Above words split_depth work'
      pub kept : Kept work work'
      pub same_pending : pending_in words split_depth work' ≡ pending_in words (suc split_depth) work
      pub no_more : cost_above words split_depth work' ≤ cost_above words (suc split_depth) work

    pub record ToRight (place' : ℕ) (work' : List ℤ) : Type 0 where
      pub there : place' < nodes words
      pub below : Above words (suc split_depth) work'
      pub kept : Kept work work'
      pub same_to_do : to_do words place' (suc split_depth) work' ≡ pending_in words (suc split_depth) work
      pub no_more : cost words place' (suc split_depth) work' ≤ cost_above words (suc split_depth) work

    -- the frames of a list that differs in ranges only
    framed_still : (work' : List ℤ) → ((e : ℕ) → frame_in work' e ≡ frame_in work e) → (depth : ℕ) → depth ≤ suc split_depth → Framed (nodes words) depth work'
    framed_still work' same depth h e l = subst (Sits (nodes words)) (sym (same e)) (above.framed e (omega arith))

    pub goes_up : eqb frame.right 0 ≡ true → Upward (restored frame work)
    goes_up done =
        let small = sits.0 in
        record {
          higher =
              record {
                deep = omega (arith, above.deep);
                roomy = simp length-set above.roomy;
                framed = framed_still (restored frame work) (restored_frame frame small work) split_depth (omega arith);
              };
          kept = record { same = simp length-set; beyond = restored_beyond frame small work };
          same_pending =
              pending_agree words split_depth (ranges (restored frame work)) (frame_in (restored frame work)) (frame_in work) (λ e l. restored_frame frame small work e)
              ∙ ap (λ (held : List ℤ). pending words split_depth held (frame_in work)) (ranges_restored frame small work)
              ∙ sym (pending_up words split_depth frame (frame_in work) refl done (ranges work));
          no_more =
              omega (
                arith,
                cost_up words split_depth frame (frame_in work) refl done,
                cost_agree words split_depth (frame_in (restored frame work)) (frame_in work) (λ e l. restored_frame frame small work e),
              );
        }

    -- the right side is visited now, and no longer pending
    abbrev next_right : List ℤ
    next_right = set (narrowed frame work) (base split_depth + 4) (pos 0)

    abbrev visited_frame : Frame
    visited_frame = record { property = frame.property; value = frame.value; low = frame.low; high = frame.high; right = 0 }

    right_frame : frame_in next_right split_depth ≡ visited_frame
    right_frame = last_word (narrowed frame work) split_depth (simp length-set (omega (arith, above.roomy, above.deep))) ∙ ap visited (narrowed_frame frame sits.0 work split_depth)

    right_others : (e : ℕ) → e < split_depth → frame_in next_right e ≡ frame_in work e
    right_others e l = frame_above (narrowed frame work) (base split_depth + 4) (pos 0) e (omega arith) ∙ narrowed_frame frame sits.0 work e

    right_ranges : ranges next_right ≡ narrowed frame (ranges work)
    right_ranges = take-set-le 512 (narrowed frame work) (base split_depth + 4) (pos 0) (omega arith) ∙ ranges_narrowed frame sits.0 work

    framed_right : (e : ℕ) → e < suc split_depth → Dec (e < split_depth) → Sits (nodes words) (frame_in next_right e)
    framed_right e l (yes m) = subst (Sits (nodes words)) (sym (right_others e m)) (above.framed e l)
    framed_right e l (no m) =
        let is_last : e ≡ split_depth = omega arith in
        subst (Sits (nodes words)) (sym (ap (frame_in next_right) is_last ∙ right_frame)) (sits.0, sound.some)

    right_pending : pending_in words (suc split_depth) next_right ≡ pending words split_depth (restored frame (ranges work)) (frame_in work)
    right_pending =
        pending_up words split_depth visited_frame (frame_in next_right) right_frame refl (ranges next_right)
        ∙ ap (λ (held : List ℤ). pending words split_depth (restored frame held) (frame_in next_right)) right_ranges
        ∙ ap (λ (held : List ℤ). pending words split_depth held (frame_in next_right)) (restored_after frame (ranges work))
        ∙ pending_agree words split_depth (restored frame (ranges work)) (frame_in next_right) (frame_in work) right_others

    pub goes_right : eqb frame.right 0 ≡ false → ToRight frame.right next_right
    goes_right waiting =
        let one_level : 2049 - suc split_depth ≡ 2048 - split_depth = omega arith in
        record {
          there = sits.1;
          below =
              record {
                deep = above.deep;
                roomy = simp length-set above.roomy;
                framed = λ e l. framed_right e l (dec_lt e split_depth);
              };
          kept =
              record {
                same = simp length-set;
                beyond = drop-set-lt 10762 (narrowed frame work) (base split_depth + 4) (pos 0) (omega (arith, above.deep)) ∙ narrowed_beyond frame sits.0 work;
              };
          same_to_do =
              rw (right_pending, one_level, right_ranges) (sym (pending_right words split_depth frame (frame_in work) refl waiting (ranges work)));
          no_more =
              rw one_level
              (omega (
                arith,
                cost_right words split_depth frame (frame_in work) refl waiting,
                cost_up words split_depth visited_frame (frame_in next_right) right_frame refl,
                cost_agree words split_depth (frame_in next_right) (frame_in work) right_others,
              ));
        }

-- ---- what the loops keep, from their start on

module _ (words : List ℤ) where
  pub record Visiting (work₀ : List ℤ) (place₀ depth₀ : ℕ) (work : List ℤ) (place depth : ℕ) : Type 0 where
    pub here : place < nodes words
    pub above : Above words depth work
    pub kept : Kept work₀ work
    pub same_to_do : to_do words place depth work ≡ to_do words place₀ depth₀ work₀
    pub no_more : cost words place depth work ≤ cost words place₀ depth₀ work₀

  pub record Rising (work₀ : List ℤ) (depth₀ : ℕ) (work : List ℤ) (depth : ℕ) : Type 0 where
    pub above : Above words depth work
    pub kept : Kept work₀ work
    pub same_pending : pending_in words depth work ≡ pending_in words depth₀ work₀
    pub no_more : cost_above words depth work ≤ cost_above words depth₀ work₀

  -- at the start all is to do, and nothing is above
  pub to_do_all : (work : List ℤ) → ranges work ≡ all_ranges → to_do words 0 0 work ≡ visit words levels 0 all_ranges
  unfolding pending
  to_do_all work opened = rw opened (then_done (visit words levels 0 all_ranges))

  pub none_pending : (depth : ℕ) (work : List ℤ) → depth ≡ 0 → pending_in words depth work ≡ gives tt
  unfolding pending
  none_pending depth work is = rw is

  pub at_start_lem : (work : List ℤ) → Sound words → 10762 ≤ length work → Visiting work 0 0 work 0 0
  at_start_lem work sound roomy =
      record {
        here = sound.some;
        above = record { deep = omega arith; roomy = roomy; framed = λ e l. absurd (omega arith) };
        kept = kept_none work;
        same_to_do = refl;
        no_more = omega arith;
      }

-- ---- what leaving a split shows

back_by : (t : Bool) {place right : ℕ} → Some place ≡ if t None (Some right) → (t ≡ false) × (place ≡ right)
back_by true e = let z : ◌≡◌ {A = ℕ} 0 1 = cc in absurd (omega arith)
back_by false e = (refl, cc)

up_by : (t : Bool) (right : ℕ) → None ≡ if t None (Some right) → t ≡ true
up_by true right e = refl
up_by false right e = let z : ◌≡◌ {A = ℕ} 0 1 = cc in absurd (omega arith)

-- on with the right side of a split
pub record Rightward (words work : List ℤ) (depth place' : ℕ) (work' : List ℤ) : Type 0 where
  pub here : place' < nodes words
  pub below : Above words depth work'
  pub kept : Kept work work'
  pub same_to_do : to_do words place' depth work' ≡ pending_in words depth work
  pub no_more : cost words place' depth work' ≤ cost_above words depth work

module _ (words : List ℤ) (sound : Sound words) (depth above : ℕ) (is : depth ≡ suc above) (work : List ℤ) (state : Above words depth work) where
  abbrev at_split : Above words (suc above) work
  at_split = subst (λ (k : ℕ). Above words k work) is state

  pub left_upward : {work' : List ℤ} → None ≡ back_of (frame_in work above) → work' ≡ back_work (frame_in work above) above work → Rising words work depth work' above
  left_upward e is_work =
      let done = up_by (eqb (frame_in work above).right 0) (frame_in work above).right e in
      let it = goes_up words sound above work at_split done in
      let same : _ ≡ restored (frame_in work above) work = is_work ∙ rw done in
      rw (same, is) (record { above = it.higher; kept = it.kept; same_pending = it.same_pending; no_more = it.no_more })

  pub left_rightward : {place' : ℕ} {work' : List ℤ} → Some place' ≡ back_of (frame_in work above) → work' ≡ back_work (frame_in work above) above work → Rightward words work depth place' work'
  left_rightward e is_work =
      let by = back_by (eqb (frame_in work above).right 0) e in
      let it = goes_right words sound above work at_split by.0 in
      let same = is_work ∙ ap (λ (t : Bool). if t (restored (frame_in work above) work) (set (narrowed (frame_in work above) work) (base above + 4) (pos 0))) by.0 in
      rw (same, is, by.1) (record { here = it.there; below = it.below; kept = it.kept; same_to_do = it.same_to_do; no_more = it.no_more })
