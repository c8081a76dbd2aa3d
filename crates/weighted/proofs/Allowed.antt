-- The tests before a call goes on: what each decides, what is known past all of them, and that what follows changes no refusal.
use borrow.Author.Tests.{leb-true, ltb-true, le-leb, lt-leb, lt-ltb, le-ltb}
use lib.Dec.{leb, ltb}
use lib.IntN.{ℤ}
use mathlib.Core.Bool.{Bool, true, false, ◌&&◌, and-false}
use mathlib.Core.List.{List}
use mathlib.Core.Path.{◌≡◌, refl, ap, ◌∙◌}
use native.Mathlib.Omega.{arith}
use Prim.Native.Nat.{ℕ, ◌≤◌, ◌<◌, ◌^◌}
use Rattle.blend.specs.Blend.{in_range}
use Rattle.integer.proofs.Tests.{and_left, and_right}
use Rattle.refusal.specs.Paper.{Outcome, gives, refuses}
use Rattle.weighted.specs.Memory.{needed}
use Rattle.weighted.specs.State.{test, is_width, is_place, allowed}
use Rattle.weighted.specs.declared.state.WeightedState.{WeightedState}

-- ---- a column of a picture that is not too wide

module _ {width x : ℕ} where
  pub is_column : width ≤ 65536 → x < width → (is_width width && ltb x width) ≡ true
  is_column narrow inside =
      let one : 1 ≤ width = omega arith in
      simp (le-leb _ _ one, le-leb _ _ narrow, lt-ltb _ _ inside)

  pub past_the_row : width ≤ x → (is_width width && ltb x width) ≡ false
  past_the_row h = simp (le-ltb _ _ h, and-false)

  pub column_is : (is_width width && ltb x width) ≡ true → (width ≤ 65536) × (x < width)
  column_is e = (
    leb-true _ _ (and_right (leb 1 width) (leb width 65536) (and_left (is_width width) (ltb x width) e)),
    ltb-true _ _ (and_right (is_width width) (ltb x width) e),
  )

-- a place of the picture
pub place_is : (s : WeightedState) → is_place s ≡ true → (s.width ≤ 65536) × (s.x < s.width) × (s.y < 2 ^ 30)
place_is s e =
    let column = column_is (and_left (is_width s.width && ltb s.x s.width) (ltb s.y (2 ^ 30)) e) in
    (column.0, column.1, ltb-true _ _ (and_right (is_width s.width && ltb s.x s.width) (ltb s.y (2 ^ 30)) e))

pub too_wide : {width : ℕ} (x : ℕ) → 65536 < width → (is_width width && ltb x width) ≡ false
too_wide x h = simp (lt-leb _ _ h, and-false)

-- ---- a test that was passed

pub test_passed : (t : Bool) (n d : ℕ) (next : Outcome Unit) → test t n d next ≡ gives tt → (t ≡ true) × (next ≡ gives tt)
test_passed true n d next e = (refl, e)
test_passed false n d next e = absurd (let z : ◌≡◌ {A = ℕ} 0 1 = cc in omega arith)

-- past all tests
pub record Granted (s : WeightedState) (turn : Bool) (lent : ℕ) : Type 0 where
  pub header_in_range : in_range s.header ≡ true
  pub placed : is_place s ≡ true
  pub narrow : s.width ≤ 65536
  pub inside : s.x < s.width
  pub row : s.y < 2 ^ 30
  pub due : turn ≡ true
  pub room : needed s.width ≤ lent

-- what follows where the tests give, their refusal else
abbrev carried : {A : Type 0} → Outcome A → Outcome Unit → Outcome A
carried next (gives done) = next
carried next (refuses number details) = refuses number details

carry : {A : Type 0} (a b c d : Bool) (k : ℕ) (next : Outcome A)
    → test a 12 0 (test b 11 0 (test c 13 0 (test d 8 k next))) ≡ carried next (test a 12 0 (test b 11 0 (test c 13 0 (test d 8 k (gives tt)))))
carry false b c d k next = refl
carry true false c d k next = refl
carry true true false d k next = refl
carry true true true false k next = refl
carry true true true true k next = refl

-- where each test holds, what follows
pub may : {A : Type 0} (s : WeightedState) (turn : Bool) (lent : ℕ) (next : Outcome A)
    → in_range s.header ≡ true → is_place s ≡ true → turn ≡ true → needed s.width ≤ lent → allowed s turn lent next ≡ next
unfolding allowed
may s turn lent next ranged inside its enough = rw (ranged, inside, its, le-leb (needed s.width) lent enough)

module _ (s : WeightedState) (turn : Bool) (lent : ℕ) where
  -- what the tests say, whatever follows
  abbrev pub verdict : Outcome Unit
  verdict = allowed s turn lent (gives tt)

  pub granted : verdict ≡ gives tt → Granted s turn lent
  unfolding allowed
  granted e =
      let header = test_passed _ _ _ _ e in
      let place = test_passed _ _ _ _ header.1 in
      let its_turn = test_passed _ _ _ _ place.1 in
      let memory = test_passed _ _ _ _ its_turn.1 in
      let stands = place_is s place.0 in
      record {
        header_in_range = header.0;
        placed = place.0;
        narrow = stands.0;
        inside = stands.1;
        row = stands.2;
        due = its_turn.0;
        room = leb-true _ _ memory.0;
      }

  carries : {A : Type 0} (next : Outcome A) → allowed s turn lent next ≡ carried next verdict
  unfolding allowed
  carries next = carry (in_range s.header) (is_place s) turn (leb (needed s.width) lent) (needed s.width) next

  -- for every call: past the tests it gives what follows, else it refuses as the tests do
  pub goes_on : {A : Type 0} (next : Outcome A) → verdict ≡ gives tt → allowed s turn lent next ≡ next
  goes_on next e = carries next ∙ ap (carried next) e

  pub refused_so : {A : Type 0} (next : Outcome A) {n : ℕ} {ds : List ℤ}
      → verdict ≡ refuses n ds → allowed s turn lent next ≡ refuses n ds
  refused_so next e = carries next ∙ ap (carried next) e
