-- Saving and restoring: the tests, what they leave of the words, and which word is copied where.
use borrow.Author.Tests.{leb-true}
use lib.Arith.{digits_lt, digits_div, digits_mod}
use lib.Dec.{leb, ltb}
use lib.IntN.{ℤ}
use lib.ListN.{get_or}
use mathlib.Core.Bool.{◌&&◌}
use mathlib.Core.List.{List}
use mathlib.Core.Path.{◌≡◌, sym, ap}
use native.Mathlib.Decide.{dec_lt}
use native.Mathlib.Nat.{mul-le-mul_right}
use native.Mathlib.Omega.{arith}
use Prim.Native.Nat.{ℕ, ◌+◌, ◌*◌, ◌/◌, ◌%◌, ◌≤◌, ◌<◌}
use Rattle.blend.specs.Blend.{in_range}
use Rattle.integer.specs.Fill.{filled}
use Rattle.refusal.specs.Paper.{Outcome, gives, refuses}
use Rattle.weighted.specs.Memory.{positions, needed}
use Rattle.weighted.specs.Saved.{saved_words, saved_word, even_row_due, copies, after_copy}
use Rattle.weighted.specs.State.{is_width}
use Rattle.weighted.specs.declared.state.WeightedState.{WeightedState}
use Rattle.weighted.proofs.Allowed.{test_passed, column_is}

-- ---- past the tests there is room for both; a refusal leaves the words, else they are written

pub room : (s : WeightedState) (lent saved : ℕ) → copies s lent saved ≡ gives tt
    → (s.width ≤ 65536) × (needed s.width ≤ lent) × (saved_words s.width ≤ saved)
room s lent saved e =
    let header = test_passed (in_range s.header) 12 0 _ e in
    let place = test_passed (is_width s.width && ltb s.x s.width) 11 0 _ header.1 in
    let its_turn = test_passed (even_row_due s) 13 0 _ place.1 in
    let memory = test_passed (leb (needed s.width) lent) 8 (needed s.width) _ its_turn.1 in
    let list = test_passed (leb (saved_words s.width) saved) 8 (saved_words s.width) _ memory.1 in
    ((column_is {x = s.x} place.0).0, leb-true _ _ memory.0, leb-true _ _ list.0)

module _ (rule : ℕ → ℕ) (n : ℕ) (words : List ℕ) where
  pub left_alone : {o : Outcome Unit} {k : ℕ} {ds : List ℤ} → o ≡ refuses k ds → words ≡ after_copy rule n words o
  left_alone e = sym (ap (after_copy rule n words) e)

  pub written : {o : Outcome Unit} → o ≡ gives tt → filled rule n words ≡ after_copy rule n words o
  written e = sym (ap (after_copy rule n words) e)

-- ---- word row * positions + x of the list is word `row` of position x

below : (row n p x : ℕ) → row * p + x < n * p → Dec (row < n) → row < n
below row n p x h (yes l) = l
below row n p x h (no l) =
    let least : n ≤ row = omega arith in
    absurd (omega (arith, mul-le-mul_right p least))

module _ (m : List ℕ) (width row x : ℕ) where
  -- there are five rows
  pub row_below : row * positions width + x < saved_words width → row < 5
  row_below h = below row 5 (positions width) x h (dec_lt row 5)

  pub saved_cell : x < positions width → get_or m (5 * x + row) 0 ≡ saved_word m width (row * positions width + x)
  saved_cell h = rw (digits_mod row h, digits_div row h)

-- ---- a word of the memory lies in the list

pub restored_within : (k p : ℕ) → k < 5 * p → k % 5 * p + k / 5 < 5 * p
restored_within k p h =
    let row : k % 5 < 5 = omega arith in
    let column : k / 5 < p = omega arith in
    digits_lt row column
