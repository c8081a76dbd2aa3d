-- A plane weighed: what `matuviso_weigh_plane` answers and writes, from the definitions of `weighted` and `history`.
use Rattle.std.specs.Prelude.{List, ◌≡◌, ℕ, ◌+◌, ◌*◌, ◌/◌, ◌%◌, ◌^◌, leb, eqb, ℤ, pos, length, get_or}
use Rattle.blend.specs.declared.Prediction.{Prediction}
use Rattle.blend.specs.declared.WeightedHeader.{WeightedHeader}
use Rattle.history.specs.Calls.{calls}
use Rattle.history.specs.Standard.{predicted}
use Rattle.integer.specs.Fill.{filled}
use Rattle.integer.specs.Order.{if}
use Rattle.lab_weighted.specs.Told.{header_of}
use Rattle.predict.specs.declared.neighbours.PredictionData.{PredictionData}
use Rattle.refusal.specs.Paper.{Outcome, gives, refuses, one_value}
use Rattle.weighted.specs.State.{test, opens, cleared}
use Rattle.weighted.specs.declared.state.WeightedState.{WeightedState}

-- ---- what the lists hold

-- the neighbours of pixel k, seven words a pixel
abbrev pub neighbours_of : List ℤ → ℕ → PredictionData
neighbours_of words k = record {
  left = get_or words (7 * k) (pos 0);
  top = get_or words (7 * k + 1) (pos 0);
  toptop = get_or words (7 * k + 2) (pos 0);
  topleft = get_or words (7 * k + 3) (pos 0);
  topright = get_or words (7 * k + 4) (pos 0);
  leftleft = get_or words (7 * k + 5) (pos 0);
  toprightright = get_or words (7 * k + 6) (pos 0);
}

abbrev pub value_of : List ℤ → ℕ → ℤ
value_of plane k = get_or plane k (pos 0)

-- two words a pixel: its guess, its property
unfoldable pub answer_word : (ℕ → Prediction) → ℕ → ℤ
answer_word of i = if (eqb (i % 2) 0) (of (i / 2)).guess (of (i / 2)).property

-- ---- the loop, from a state as it is opened

-- where opening has been: it would give this state again, and change nothing
pub record Fresh (s : WeightedState) (m : List ℕ) : Type 0 where
  pub opens_again : opens s.header s.width m ≡ gives s
  pub is_clear : cleared m (gives s) ≡ m

module _ (h : WeightedHeader) (width : ℕ) (words plane : List ℤ) where
  -- the memory after the whole plane
  abbrev pub memory_after : List ℕ → List ℕ
  memory_after m = (calls h width m (neighbours_of words) (value_of plane) (length plane)).memory

  -- the words of the first k pixels
  abbrev pub answers_to : ℕ → List ℤ → List ℤ
  answers_to k a = filled (answer_word (predicted h width (neighbours_of words) (value_of plane))) (2 * k) a

-- ---- the whole call

-- the lists' lengths, the rows, then as opening
abbrev pub weighs : List ℕ → ℕ → List ℤ → List ℤ → List ℕ → List ℤ → Outcome WeightedState
weighs header width words plane m a =
    test (leb 11 (length header)) 8 11
    (test (leb (7 * length plane) (length words)) 8 (7 * length plane)
    (test (leb (2 * length plane) (length a)) 8 (2 * length plane)
    (test (leb (length plane) (width * 2 ^ 30)) 11 0 (opens (header_of header) width m))))

abbrev pub status : Outcome WeightedState → ℕ
status (gives s) = 0
status (refuses number details) = number

abbrev pub after : {A : Type 0} → Outcome WeightedState → A → A → A
after (gives s) new old = new
after (refuses number details) new old = old

-- 0 and the words, or a refusal's number and nothing
pub record WeighsPlane (header : List ℕ) (width : ℕ) (words plane : List ℤ) (m : List ℕ) (a : List ℤ) (r : ℕ) (m' : List ℕ) (a' : List ℤ) : Type 0 where
  pub answers : r ≡ status (weighs header width words plane m a)
  pub holds_memory : m' ≡ after (weighs header width words plane m a) (memory_after (header_of header) width words plane m) m
  pub holds_answers :
      a'
      ≡ after (weighs header width words plane m a) (answers_to (header_of header) width words plane (length plane) a) a

pub weighs_plane_determined : (header : List ℕ) (width : ℕ) (words plane : List ℤ) (m : List ℕ) (a : List ℤ) {r s : ℕ} {m' m'' : List ℕ} {a' a'' : List ℤ}
    → WeighsPlane header width words plane m a r m' a' → WeighsPlane header width words plane m a s m'' a'' → (r ≡ s) × (m' ≡ m'') × (a' ≡ a'')
weighs_plane_determined header width words plane m a p q = (
  one_value p.answers q.answers,
  one_value p.holds_memory q.holds_memory,
  one_value p.holds_answers q.holds_answers,
)
