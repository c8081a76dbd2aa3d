-- What a visit has still to do, as the work area holds it: the right side of each split above, and then what is above that.
use lib.Dec.{eqb}
use lib.IntN.{ℤ, pos}
use lib.ListN.{length, set, drop, length-set}
use lib.Seq.{get_or-set_same, get_or-set_other, get_or-take, set-get_or, set-set, set_comm, take-set-le, take-set-lt, drop-set-lt}
use mathlib.Core.Bool.{true, false}
use mathlib.Core.List.{List}
use mathlib.Core.Path.{◌≡◌, refl, ap, ◌∙◌}
use native.Mathlib.Omega.{arith}
use Prim.Native.Nat.{ℕ, zero, suc, ◌+◌, ◌*◌, ◌-◌, ◌≤◌, ◌<◌, ◌^◌}
use Rattle.integer.specs.Order.{if}
use Rattle.integer.specs.Word.{bits_of}
use Rattle.integer.proofs.Wrap.{bits_parts}
use Rattle.nodes.specs.Nodes.{then}
use Rattle.nodes.specs.declared.Split.{Split}
use Rattle.refusal.specs.Paper.{Outcome, gives, refuses}
use Rattle.validation.specs.Visit.{low, high, left_of, right_of, empty_side, visit, entered}
use Rattle.validation.specs.Frames.{Frame, frame_in, word_at, base, ranges, pushed, descended, restored, narrowed}

-- ---- one after the other

pub then_then : {A : Type 0} (a b : Outcome Unit) (c : Outcome A) → then (then a b) c ≡ then a (then b c)
then_then (gives u) b c = refl
then_then (refuses number details) b c = refl

pub then_done : (a : Outcome Unit) → then a (gives tt) ≡ a
then_done (gives u) = refl
then_done (refuses number details) = refl

-- ---- what is pending below a depth, by the ranges and the frames

module _ (words : List ℤ) where
  abbrev pub right_side : ℕ → List ℤ → Frame → Outcome Unit
  right_side depth held f = if (eqb f.right 0) (gives tt) (visit words (2048 - depth) f.right (narrowed f held))

  unfoldable pub pending : ℕ → List ℤ → (ℕ → Frame) → Outcome Unit
  pending zero held frames = gives tt
  pending (suc depth) held frames = then (right_side depth held (frames depth)) (pending depth (restored (frames depth) held) frames)

  -- and how many nodes that may still enter
  abbrev pub right_cost : ℕ → Frame → ℕ
  right_cost depth f = if (eqb f.right 0) 0 (entered words (2048 - depth) f.right)

  unfoldable pub pending_cost : ℕ → (ℕ → Frame) → ℕ
  pending_cost zero frames = 0
  pending_cost (suc depth) frames = right_cost depth (frames depth) + pending_cost depth frames

  -- only the frames below that depth count
  pub pending_agree : (depth : ℕ) (held : List ℤ) (f g : ℕ → Frame) → ((e : ℕ) → e < depth → f e ≡ g e) → pending depth held f ≡ pending depth held g
  unfolding pending
  pending_agree zero held f g same = refl
  pending_agree (suc depth) held f g same =
      rw (same depth (omega arith)) (ap (λ (o : Outcome Unit). then (right_side depth held (g depth)) o) (pending_agree depth (restored (g depth) held) f g (λ e h. same e (omega arith))))

  pub cost_agree : (depth : ℕ) (f g : ℕ → Frame) → ((e : ℕ) → e < depth → f e ≡ g e) → pending_cost depth f ≡ pending_cost depth g
  unfolding pending_cost
  cost_agree zero f g same = refl
  cost_agree (suc depth) f g same =
      rw (same depth (omega arith)) (ap (λ (k : ℕ). right_cost depth (g depth) + k) (cost_agree depth f g (λ e h. same e (omega arith))))

  -- one frame more, by what it holds
  module _ (depth : ℕ) (f : Frame) (frames : ℕ → Frame) (is : frames depth ≡ f) where
    pub pending_right : eqb f.right 0 ≡ false → (held : List ℤ)
        → pending (suc depth) held frames ≡ then (visit words (2048 - depth) f.right (narrowed f held)) (pending depth (restored f held) frames)
    unfolding pending
    pending_right e held = rw (is, e)

    pub pending_up : eqb f.right 0 ≡ true → (held : List ℤ) → pending (suc depth) held frames ≡ pending depth (restored f held) frames
    unfolding pending
    pending_up e held = rw (is, e)

    pub cost_right : eqb f.right 0 ≡ false → pending_cost (suc depth) frames ≡ entered words (2048 - depth) f.right + pending_cost depth frames
    unfolding pending_cost
    cost_right e = rw (is, e)

    pub cost_up : eqb f.right 0 ≡ true → pending_cost (suc depth) frames ≡ pending_cost depth frames
    unfolding pending_cost
    cost_up e = rw (is, e) (omega arith)

-- ---- a word that is written is in no other frame

module _ (work : List ℤ) (i : ℕ) (a : ℤ) (e : ℕ) where
  frame_away : ((j : ℕ) → j < 5 → base e + j ≡ i → ⊥) → frame_in (set work i a) e ≡ frame_in work e
  frame_away away =
      rw (
        get_or-set_other work i (base e) a (pos 0) (λ h. away 0 (omega arith) (omega (arith, h))),
        get_or-set_other work i (base e + 1) a (pos 0) (away 1 (omega arith)),
        get_or-set_other work i (base e + 2) a (pos 0) (away 2 (omega arith)),
        get_or-set_other work i (base e + 3) a (pos 0) (away 3 (omega arith)),
        get_or-set_other work i (base e + 4) a (pos 0) (away 4 (omega arith)),
      )

  pub frame_above : base e + 5 ≤ i → frame_in (set work i a) e ≡ frame_in work e
  frame_above h = frame_away (λ j l is. omega (arith, is, h))

  pub frame_below : i < 512 → frame_in (set work i a) e ≡ frame_in work e
  frame_below h = frame_away (λ j l is. omega (arith, is, h))

-- the last word of a frame, written 0: its right side is visited
abbrev pub visited : Frame → Frame
visited f = record { property = f.property; value = f.value; low = f.low; high = f.high; right = 0 }

pub last_word : (work : List ℤ) (e : ℕ) → base e + 4 < length work → frame_in (set work (base e + 4) (pos 0)) e ≡ visited (frame_in work e)
last_word work e room =
    rw (
      get_or-set_other work (base e + 4) (base e) (pos 0) (pos 0) (λ h. omega (arith, h)),
      get_or-set_other work (base e + 4) (base e + 1) (pos 0) (pos 0) (λ h. omega (arith, h)),
      get_or-set_other work (base e + 4) (base e + 2) (pos 0) (pos 0) (λ h. omega (arith, h)),
      get_or-set_other work (base e + 4) (base e + 3) (pos 0) (pos 0) (λ h. omega (arith, h)),
      get_or-set_same work (base e + 4) (pos 0) (pos 0) room,
    )

-- ---- a range that is written

-- the words of the ranges are the work area's first
pub low_held : (work : List ℤ) (p : ℕ) → p < 256 → low (ranges work) p ≡ low work p
low_held work p h = get_or-take 512 work (2 * p) (pos 0) (omega arith)

pub high_held : (work : List ℤ) (p : ℕ) → p < 256 → high (ranges work) p ≡ high work p
high_held work p h = get_or-take 512 work (2 * p + 1) (pos 0) (omega arith)

pub sides_held : (s : Split) (work : List ℤ) → s.property < 256 → empty_side s (ranges work) ≡ empty_side s work
sides_held s work h = rw (low_held work s.property h, high_held work s.property h)

module _ (f : Frame) (small : f.property < 256) (work : List ℤ) where
  pub ranges_restored : ranges (restored f work) ≡ restored f (ranges work)
  ranges_restored =
      take-set-lt 512 (set work (2 * f.property) f.low) (2 * f.property + 1) f.high (omega arith)
      ∙ ap (λ (l : List ℤ). set l (2 * f.property + 1) f.high) (take-set-lt 512 work (2 * f.property) f.low (omega arith))

  pub ranges_narrowed : ranges (narrowed f work) ≡ narrowed f (ranges work)
  ranges_narrowed =
      take-set-lt 512 (set work (2 * f.property) f.low) (2 * f.property + 1) f.value (omega arith)
      ∙ ap (λ (l : List ℤ). set l (2 * f.property + 1) f.value) (take-set-lt 512 work (2 * f.property) f.low (omega arith))

  -- neither touches a frame
  pub restored_frame : (e : ℕ) → frame_in (restored f work) e ≡ frame_in work e
  restored_frame e =
      frame_below (set work (2 * f.property) f.low) (2 * f.property + 1) f.high e (omega arith) ∙ frame_below work (2 * f.property) f.low e (omega arith)

  pub narrowed_frame : (e : ℕ) → frame_in (narrowed f work) e ≡ frame_in work e
  narrowed_frame e =
      frame_below (set work (2 * f.property) f.low) (2 * f.property + 1) f.value e (omega arith) ∙ frame_below work (2 * f.property) f.low e (omega arith)

  pub restored_beyond : drop 10762 (restored f work) ≡ drop 10762 work
  restored_beyond =
      drop-set-lt 10762 (set work (2 * f.property) f.low) (2 * f.property + 1) f.high (omega arith) ∙ drop-set-lt 10762 work (2 * f.property) f.low (omega arith)

  pub narrowed_beyond : drop 10762 (narrowed f work) ≡ drop 10762 work
  narrowed_beyond =
      drop-set-lt 10762 (set work (2 * f.property) f.low) (2 * f.property + 1) f.value (omega arith) ∙ drop-set-lt 10762 work (2 * f.property) f.low (omega arith)

-- what is restored does not depend on what the split's range is now
two_again : (l : List ℤ) (i j : ℕ) (a b c : ℤ) → (j ≡ i → ⊥) → set (set (set (set l i a) j b) i a) j c ≡ set (set l i a) j c
two_again l i j a b c apart =
    ap (λ (m : List ℤ). set m j c) (set_comm (set l i a) j i b a apart ∙ ap (λ (m : List ℤ). set m j b) (set-set l i a a))
    ∙ set-set (set l i a) j b c

pub restored_after : (f : Frame) (held : List ℤ) → restored f (narrowed f held) ≡ restored f held
restored_after f held = two_again held (2 * f.property) (2 * f.property + 1) f.low f.value f.high (λ h. omega (arith, h))

-- ---- down to the left: the frame holds the range as it was

module _ (s : Split) (held : List ℤ) where
  abbrev frame_of : ℤ → ℤ → Frame
  frame_of l h = record { property = s.property; value = s.value; low = l; high = h; right = s.right }

  abbrev pub found : Frame
  found = frame_of (low held s.property) (high held s.property)

  low_again : set (left_of s held) (2 * s.property) (low held s.property) ≡ held
  low_again = set-set held (2 * s.property) _ _ ∙ set-get_or held (2 * s.property) (pos 0)

  pub restored_left : restored found (left_of s held) ≡ held
  restored_left = ap (λ (l : List ℤ). set l (2 * s.property + 1) (high held s.property)) low_again ∙ set-get_or held (2 * s.property + 1) (pos 0)

  pub narrowed_left : narrowed found (left_of s held) ≡ right_of s held
  narrowed_left = ap (λ (l : List ℤ). set l (2 * s.property + 1) s.value) low_again

-- five words written one after the other
module _ (l : List ℤ) (b : ℕ) (a0 a1 a2 a3 a4 : ℤ) (room : b + 4 < length l) where
  abbrev l1 : List ℤ
  l1 = set l b a0

  abbrev l2 : List ℤ
  l2 = set l1 (b + 1) a1

  abbrev l3 : List ℤ
  l3 = set l2 (b + 2) a2

  abbrev l4 : List ℤ
  l4 = set l3 (b + 3) a3

  abbrev l5 : List ℤ
  l5 = set l4 (b + 4) a4

  word0 : word_at l5 b ≡ a0
  word0 =
      get_or-set_other l4 (b + 4) b a4 (pos 0) (λ h. omega (arith, h))
      ∙ get_or-set_other l3 (b + 3) b a3 (pos 0) (λ h. omega (arith, h))
      ∙ get_or-set_other l2 (b + 2) b a2 (pos 0) (λ h. omega (arith, h))
      ∙ get_or-set_other l1 (b + 1) b a1 (pos 0) (λ h. omega (arith, h))
      ∙ get_or-set_same l b a0 (pos 0) (omega arith)

  word1 : word_at l5 (b + 1) ≡ a1
  word1 =
      get_or-set_other l4 (b + 4) (b + 1) a4 (pos 0) (λ h. omega (arith, h))
      ∙ get_or-set_other l3 (b + 3) (b + 1) a3 (pos 0) (λ h. omega (arith, h))
      ∙ get_or-set_other l2 (b + 2) (b + 1) a2 (pos 0) (λ h. omega (arith, h))
      ∙ get_or-set_same l1 (b + 1) a1 (pos 0) (omega (arith, length-set l b a0))

  word2 : word_at l5 (b + 2) ≡ a2
  word2 =
      get_or-set_other l4 (b + 4) (b + 2) a4 (pos 0) (λ h. omega (arith, h))
      ∙ get_or-set_other l3 (b + 3) (b + 2) a3 (pos 0) (λ h. omega (arith, h))
      ∙ get_or-set_same l2 (b + 2) a2 (pos 0) (omega (arith, length-set l b a0, length-set l1 (b + 1) a1))

  word3 : word_at l5 (b + 3) ≡ a3
  word3 =
      get_or-set_other l4 (b + 4) (b + 3) a4 (pos 0) (λ h. omega (arith, h))
      ∙ get_or-set_same l3 (b + 3) a3 (pos 0) (omega (arith, length-set l b a0, length-set l1 (b + 1) a1, length-set l2 (b + 2) a2))

  word4 : word_at l5 (b + 4) ≡ a4
  word4 =
      get_or-set_same l4 (b + 4) a4 (pos 0)
      (omega (arith, length-set l b a0, length-set l1 (b + 1) a1, length-set l2 (b + 2) a2, length-set l3 (b + 3) a3))

pattern_of : (k : ℕ) → k < 2 ^ 32 → bits_of (pos k) ≡ k
pattern_of k h = omega (arith, bits_parts (pos k))

module _ (s : Split) (depth : ℕ) (work : List ℤ) (small : s.property < 256) (right_small : s.right < 2 ^ 32) (deep : depth ≤ 2048) (room : 10762 ≤ length work) where
  abbrev b : ℕ
  b = base depth

  abbrev p : ℕ
  p = s.property

  room_here : b + 4 < length work
  room_here = omega arith

  pushed_frame : frame_in (pushed s depth work) depth ≡ found s work
  pushed_frame =
      rw (
        word0 work b (pos p) s.value (low work p) (high work p) (pos s.right) room_here,
        word1 work b (pos p) s.value (low work p) (high work p) (pos s.right) room_here,
        word2 work b (pos p) s.value (low work p) (high work p) (pos s.right) room_here,
        word3 work b (pos p) s.value (low work p) (high work p) (pos s.right) room_here,
        word4 work b (pos p) s.value (low work p) (high work p) (pos s.right) room_here,
        pattern_of p (omega arith),
        pattern_of s.right right_small,
      )

  found_held : found s work ≡ found s (ranges work)
  found_held = rw (low_held work p small, high_held work p small)

  pub descended_frame : frame_in (descended s depth work) depth ≡ found s (ranges work)
  descended_frame = frame_below (pushed s depth work) (2 * p) _ depth (omega arith) ∙ pushed_frame ∙ found_held

  -- a word of the frame, laid into any list
  abbrev q1 : List ℤ
  q1 = set work b (pos p)

  abbrev q2 : List ℤ
  q2 = set q1 (b + 1) s.value

  abbrev q3 : List ℤ
  q3 = set q2 (b + 2) (low work p)

  abbrev q4 : List ℤ
  q4 = set q3 (b + 3) (high work p)

  pub descended_other : (e : ℕ) → e < depth → frame_in (descended s depth work) e ≡ frame_in work e
  descended_other e h =
      frame_below (pushed s depth work) (2 * p) _ e (omega arith)
      ∙ frame_above q4 (b + 4) (pos s.right) e (omega arith)
      ∙ frame_above q3 (b + 3) (high work p) e (omega arith)
      ∙ frame_above q2 (b + 2) (low work p) e (omega arith)
      ∙ frame_above q1 (b + 1) s.value e (omega arith)
      ∙ frame_above work b (pos p) e (omega arith)

  pushed_ranges : ranges (pushed s depth work) ≡ ranges work
  pushed_ranges =
      take-set-le 512 q4 (b + 4) (pos s.right) (omega arith)
      ∙ take-set-le 512 q3 (b + 3) (high work p) (omega arith)
      ∙ take-set-le 512 q2 (b + 2) (low work p) (omega arith)
      ∙ take-set-le 512 q1 (b + 1) s.value (omega arith)
      ∙ take-set-le 512 work b (pos p) (omega arith)

  pub descended_ranges : ranges (descended s depth work) ≡ left_of s (ranges work)
  descended_ranges = take-set-lt 512 (pushed s depth work) (2 * p) _ (omega arith) ∙ ap (left_of s) pushed_ranges

  pub descended_beyond : drop 10762 (descended s depth work) ≡ drop 10762 work
  descended_beyond =
      drop-set-lt 10762 (pushed s depth work) (2 * p) _ (omega arith)
      ∙ drop-set-lt 10762 q4 (b + 4) (pos s.right) (omega arith)
      ∙ drop-set-lt 10762 q3 (b + 3) (high work p) (omega arith)
      ∙ drop-set-lt 10762 q2 (b + 2) (low work p) (omega arith)
      ∙ drop-set-lt 10762 q1 (b + 1) s.value (omega arith)
      ∙ drop-set-lt 10762 work b (pos p) (omega arith)

  pub descended_length : length (descended s depth work) ≡ length work
  descended_length = simp length-set
