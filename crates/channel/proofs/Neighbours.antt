-- The neighbours of a pixel of a plane of 32-bit words are 32-bit words: those of its row and of the rows above, and what stands in for
-- them where there is none.
use lib.Dec.{leb}
use lib.IntN.{ℤ, pos}
use lib.ListN.{length, get_or, set, take, drop, length-take, get_or-eq_default}
use lib.Seq.{get_or-take, get_or-drop, get_or-set_same, get_or-set_other, set_out}
use lib.Signed.{mag}
use mathlib.Core.Bool.{Bool, true, false}
use mathlib.Core.List.{List, []}
use mathlib.Core.Path.{◌≡◌}
use native.Mathlib.Decide.{dec_lt, ℕ_discrete}
use native.Mathlib.Omega.{arith}
use Prim.Native.Nat.{ℕ, ◌+◌, ◌-◌, ◌*◌, ◌^◌, ◌<◌}
use Rattle.colour.specs.Rows.{is_row, row_of}
use Rattle.history.specs.Calls.{Words}
use Rattle.integer.proofs.Wrap.{wrap_below}
use Rattle.integer.specs.Order.{if}
use Rattle.integer.specs.Word.{wrap}
use Rattle.predict.proofs.Rows.{cell_there}
use Rattle.predict.specs.Neighbours.{before, fetched, present}

abbrev pub IsWord : ℤ → Type 0
IsWord z = mag z < 2 ^ 31

abbrev pub AreWords : List ℤ → Type 0
AreWords l = (i : ℕ) → IsWord (get_or l i (pos 0))

chosen : (t : Bool) (a b : ℤ) → IsWord a → IsWord b → IsWord (if t a b)
chosen true a b p q = p
chosen false a b p q = q

-- with any word for what is not there
word_at : (l : List ℤ) (i : ℕ) (d : ℤ) → AreWords l → IsWord d → IsWord (get_or l i d)
word_at l i d words is = by (dec_lt i (length l))
  where
    by : Dec (i < length l) → IsWord (get_or l i d)
    by (yes inside) = rw (cell_there l i d (pos 0) inside) (words i)
    by (no past) = rw (get_or-eq_default l d {n = i} (omega arith)) is

-- ---- a value goes into the plane

pub set_words : (l : List ℤ) (k : ℕ) (z : ℤ) → AreWords l → AreWords (set l k (wrap z))
set_words l k z words i = by (ℕ_discrete i k) (dec_lt k (length l))
  where
    by : Dec (i ≡ k) → Dec (k < length l) → IsWord (get_or (set l k (wrap z)) i (pos 0))
    by (yes here) (yes inside) = rw (here, get_or-set_same l k (wrap z) (pos 0) inside) (wrap_below z).size
    by (yes here) (no past) = rw (set_out l k (wrap z) (omega arith)) (words i)
    by (no there) inside = rw (get_or-set_other l k i (wrap z) (pos 0) there) (words i)

-- ---- a row, which is none where the plane has no such row or y is too small

part_words : (n from : ℕ) (l : List ℤ) → AreWords l → AreWords (take n (drop from l))
part_words n from l words i = by (dec_lt i n)
  where
    by : Dec (i < n) → IsWord (get_or (take n (drop from l)) i (pos 0))
    by (yes inside) = rw (get_or-take n (drop from l) i (pos 0) inside, get_or-drop from l i (pos 0)) (words (from + i))
    by (no past) =
        rw (get_or-eq_default (take n (drop from l)) (pos 0) {n = i} (omega (arith, length-take n (drop from l)))) (omega arith)

some_row : (t : Bool) (l : List ℤ) → AreWords l → AreWords (if t l [])
some_row true l words = words
some_row false l words = λ i. omega arith

pub row_words : (plane : List ℤ) (width least y row : ℕ) → AreWords plane → AreWords (present least y (row_of plane width row))
row_words plane width least y row words =
    some_row (leb least y) (row_of plane width row)
    (some_row (is_row (length plane) width row) (take width (drop (row * width) plane)) (part_words width (row * width) plane words))

-- ---- the neighbours

module _ (row above above2 : List ℤ) (x : ℕ) (in_row : AreWords row) (in_above : AreWords above) (in_above2 : AreWords above2) where
  before_word : (l : List ℤ) (back : ℕ) (d : ℤ) → AreWords l → IsWord d → IsWord (before l x back d)
  before_word l back d words is = chosen (leb back x) (get_or l (x - back) d) d (word_at l (x - back) d words is) is

  pub neighbour_words : Words (fetched row above above2 x)
  unfolding fetched
  neighbour_words =
      let left = before_word row 1 (get_or above 0 (pos 0)) in_row (in_above 0) in
      let top = word_at above x _ in_above left in
      record {
        left_fits = left;
        top_fits = top;
        toptop_fits = word_at above2 x _ in_above2 top;
        topleft_fits = before_word above 1 _ in_above left;
        topright_fits = word_at above (x + 1) _ in_above top;
      }
