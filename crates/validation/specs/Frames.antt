-- How the visit uses its work area of 10,762 words: 512 for the ranges, then 2,050 frames of five, one for each split on the way from the
-- root: its property, its value, the range that it found, and its right child while that is still to be visited, else 0.
use Rattle.std.specs.Prelude.{List, [], ◌∷◌, ◌≡◌, ℕ, ◌+◌, ◌*◌, ◌<◌, leb, eqb, ℤ, pos, get_or, set, take, Option, Some, None}
use Rattle.integer.specs.Order.{if}
use Rattle.integer.specs.Word.{bits_of}
use Rattle.nodes.specs.Nodes.{node_at}
use Rattle.nodes.specs.declared.Node.{Node}
use Rattle.nodes.specs.declared.Node.TheVariants as node
use Rattle.nodes.specs.declared.Split.{Split}
use Rattle.refusal.specs.Paper.{Outcome, gives, refuses}
use Rattle.validation.specs.Visit.{low, high, empty_side, left_of}

abbrev pub area_needed : ℕ
area_needed = 10762

abbrev pub ranges : List ℤ → List ℤ
ranges work = take 512 work

pub record Frame : Type 0 where
  pub property : ℕ
  pub value : ℤ
  pub low : ℤ
  pub high : ℤ
  pub right : ℕ

abbrev pub base : ℕ → ℕ
base depth = 512 + 5 * depth

abbrev pub word_at : List ℤ → ℕ → ℤ
word_at work i = get_or work i (pos 0)

abbrev pub frame_in : List ℤ → ℕ → Frame
frame_in work depth =
    record {
      property = bits_of (word_at work (base depth));
      value = word_at work (base depth + 1);
      low = word_at work (base depth + 2);
      high = word_at work (base depth + 3);
      right = bits_of (word_at work (base depth + 4));
    }

-- ---- down: the split's frame is written, and its left range set

abbrev pub pushed : Split → ℕ → List ℤ → List ℤ
pushed s depth work =
    set
    (set
    (set
    (set
    (set work (base depth) (pos s.property)) (base depth + 1) s.value)
    (base depth + 2)
    (low work s.property))
    (base depth + 3)
    (high work s.property))
    (base depth + 4)
    (pos s.right)

abbrev pub descended : Split → ℕ → List ℤ → List ℤ
descended s depth work = left_of s (pushed s depth work)

-- on to a split's left child, none of a leaf
abbrev pub Step : Type 0
Step = Option ℕ

abbrev pub at_leaf : Step
at_leaf = None

abbrev pub down : ℕ → Step
down place = Some place

-- depth before range
abbrev pub leaf_step : ℕ → ℕ → Outcome Step
leaf_step place depth = if (leb depth 2048) (gives at_leaf) (refuses 6 (pos place ∷ []))

abbrev pub split_step : Split → ℕ → ℕ → List ℤ → Outcome Step
split_step s place depth work =
    if (leb depth 2048)
    (if (empty_side s work)
    (refuses 7 (pos place ∷ pos s.property ∷ s.value ∷ low work s.property ∷ high work s.property ∷ []))
    (gives (down s.left)))
    (refuses 6 (pos place ∷ []))

abbrev pub split_work : Split → ℕ → List ℤ → List ℤ
split_work s depth work = if (leb depth 2048) (if (empty_side s work) work (descended s depth work)) work

abbrev pub step_of : Outcome Node → ℕ → ℕ → List ℤ → Outcome Step
step_of (refuses number details) place depth work = refuses number details
step_of (gives (node.Leaf l)) place depth work = leaf_step place depth
step_of (gives (node.Split s)) place depth work = split_step s place depth work

abbrev pub work_of : Outcome Node → ℕ → List ℤ → List ℤ
work_of (refuses number details) depth work = work
work_of (gives (node.Leaf l)) depth work = work
work_of (gives (node.Split s)) depth work = split_work s depth work

abbrev pub entering : List ℤ → ℕ → ℕ → List ℤ → Outcome Step
entering words place depth work = step_of (node_at words place) place depth work

abbrev pub entered_work : List ℤ → ℕ → ℕ → List ℤ → List ℤ
entered_work words place depth work = work_of (node_at words place) depth work

-- of a sound list: a right child is a place
abbrev pub RightFits : List ℤ → ℕ → Type 0
RightFits words place = (s : Split) → node_at words place ≡ gives (node.Split s) → s.right < 1048576

-- ---- back at a split: on to its right side, or up with its range restored

abbrev pub back_of : Frame → Option ℕ
back_of f = if (eqb f.right 0) None (Some f.right)

abbrev pub restored : Frame → List ℤ → List ℤ
restored f work = set (set work (2 * f.property) f.low) (2 * f.property + 1) f.high

abbrev pub narrowed : Frame → List ℤ → List ℤ
narrowed f work = set (set work (2 * f.property) f.low) (2 * f.property + 1) f.value

abbrev pub back_work : Frame → ℕ → List ℤ → List ℤ
back_work f depth work = if (eqb f.right 0) (restored f work) (set (narrowed f work) (base depth + 4) (pos 0))

-- ---- what is held of the frames above depth: properties that have a range, and right children that are nodes

abbrev pub Sits : ℕ → Frame → Type 0
Sits n f = (f.property < 256) × (f.right < n)

abbrev pub Framed : ℕ → ℕ → List ℤ → Type 0
Framed n depth work = (e : ℕ) → e < depth → Sits n (frame_in work e)
