-- The five words of a position, each in its lane: what a position holds after `stored` and `added`, to a multiple of 2^32. The error
-- that is read and the sums that are read do not see more of a word.
use lib.ListN.{length, get_or, set, length-set}
use lib.Seq.{get_or-set_same, get_or-set_other}
use mathlib.Core.List.{List}
use mathlib.Core.Logic.{◌≢◌}
use mathlib.Core.Path.{◌≡◌, refl, ap, ◌∙◌}
use native.Mathlib.Nat.{add-zero}
use native.Mathlib.Omega.{arith}
use Prim.Native.Nat.{ℕ, ◌+◌, ◌*◌, ◌%◌, ◌^◌, ◌≤◌, ◌<◌}
use Rattle.arith.specs.declared.Four.{Four}
use Rattle.blend.specs.declared.PixelErrors.{PixelErrors}
use Rattle.integer.specs.Word.{bits_of}
use Rattle.weighted.specs.Memory.{word, stored, added}
use Rattle.history.specs.Standard.{none}

pub data Lane : Type 0 where
  errors sums0 sums1 sums2 sums3 : Lane

abbrev pub place : Lane → ℕ
place errors = 0
place sums0 = 1
place sums1 = 2
place sums2 = 3
place sums3 = 4

abbrev pick : Lane → ℕ → ℕ → ℕ → ℕ → ℕ → ℕ
pick errors e a b c d = e
pick sums0 e a b c d = a
pick sums1 e a b c d = b
pick sums2 e a b c d = c
pick sums3 e a b c d = d

-- what a pixel's errors put into the lane, and what they add to it
abbrev pub held : Lane → PixelErrors → ℕ
held l e = pick l (bits_of e.error) e.sub.e0 e.sub.e1 e.sub.e2 e.sub.e3

abbrev pub share : Lane → Four → ℕ
share l s = pick l 0 s.e0 s.e1 s.e2 s.e3

-- a pixel that is not there puts nothing and adds nothing
pub none_adds : (l : Lane) → share l none.sub ≡ 0
none_adds errors = refl
none_adds sums0 = refl
none_adds sums1 = refl
none_adds sums2 = refl
none_adds sums3 = refl

abbrev pub cell : List ℕ → ℕ → Lane → ℕ
cell m p l = word m p (place l) % 2 ^ 32

pub place_small : (l : Lane) → place l < 5
place_small errors = omega arith
place_small sums0 = omega arith
place_small sums1 = omega arith
place_small sums2 = omega arith
place_small sums3 = omega arith

-- ---- four words after word n

module _ (m : List ℕ) (n a b c d : ℕ) where
  abbrev one : List ℕ
  one = set m (n + 1) a

  abbrev two : List ℕ
  two = set one (n + 2) b

  abbrev three : List ℕ
  three = set two (n + 3) c

  abbrev four : List ℕ
  four = set three (n + 4) d

  three_length : length three ≡ length m
  three_length = length-set two (n + 3) c ∙ length-set one (n + 2) b ∙ length-set m (n + 1) a

  four_length : length four ≡ length m
  four_length = length-set three (n + 4) d ∙ three_length

  four_other : (q : ℕ) → q ≢ n + 1 → q ≢ n + 2 → q ≢ n + 3 → q ≢ n + 4 → get_or four q 0 ≡ get_or m q 0
  four_other q e f g h =
      get_or-set_other three (n + 4) q d 0 h ∙ get_or-set_other two (n + 3) q c 0 g ∙ get_or-set_other one (n + 2) q b 0 f ∙ get_or-set_other m (n + 1) q a 0 e

  four_at : n + 5 ≤ length m → (l : Lane) → get_or four (n + place l) 0 ≡ pick l (get_or m (n + 0) 0) a b c d
  four_at h errors = four_other (n + 0) (omega arith) (omega arith) (omega arith) (omega arith)
  four_at h sums0 =
      get_or-set_other three (n + 4) (n + 1) d 0 (omega arith)
      ∙ get_or-set_other two (n + 3) (n + 1) c 0 (omega arith)
      ∙ get_or-set_other one (n + 2) (n + 1) b 0 (omega arith)
      ∙ get_or-set_same m (n + 1) a 0 (omega arith)
  four_at h sums1 =
      get_or-set_other three (n + 4) (n + 2) d 0 (omega arith)
      ∙ get_or-set_other two (n + 3) (n + 2) c 0 (omega arith)
      ∙ get_or-set_same one (n + 2) b 0 (omega (arith, length-set m (n + 1) a))
  four_at h sums2 =
      get_or-set_other three (n + 4) (n + 3) d 0 (omega arith)
      ∙ get_or-set_same two (n + 3) c 0 (omega (arith, length-set one (n + 2) b, length-set m (n + 1) a))
  four_at h sums3 = get_or-set_same three (n + 4) d 0 (omega (arith, three_length))

-- ---- a position written

module _ (m : List ℕ) (p : ℕ) (e : PixelErrors) where
  abbrev begun : List ℕ
  begun = set m (5 * p) (bits_of e.error)

  pub stored_length : length (stored m p e) ≡ length m
  unfolding stored
  stored_length =
      four_length begun (5 * p) e.sub.e0 e.sub.e1 e.sub.e2 e.sub.e3 ∙ length-set m (5 * p) (bits_of e.error)

  begun_here : 5 * p + 5 ≤ length m → get_or begun (5 * p + 0) 0 ≡ bits_of e.error
  begun_here h = rw add-zero (get_or-set_same m (5 * p) (bits_of e.error) 0 (omega arith))

  pub stored_here : 5 * p + 5 ≤ length m → (l : Lane) → word (stored m p e) p (place l) ≡ held l e
  unfolding stored
  stored_here h l =
      four_at begun (5 * p) e.sub.e0 e.sub.e1 e.sub.e2 e.sub.e3 (omega (arith, length-set m (5 * p) (bits_of e.error))) l
      ∙ ap (λ (n : ℕ). pick l n e.sub.e0 e.sub.e1 e.sub.e2 e.sub.e3) (begun_here h)

  pub stored_there : (q : ℕ) → q ≢ p → (l : Lane) → word (stored m p e) q (place l) ≡ word m q (place l)
  unfolding stored
  stored_there q differs l =
      let small = place_small l in
      four_other begun (5 * p) e.sub.e0 e.sub.e1 e.sub.e2 e.sub.e3 (5 * q + place l)
      (omega arith) (omega arith) (omega arith) (omega arith)
      ∙ get_or-set_other m (5 * p) (5 * q + place l) (bits_of e.error) 0 (omega arith)

-- ---- sums that grow

module _ (m : List ℕ) (p : ℕ) (s : Four) where
  abbrev grown : ℕ → ℕ → ℕ
  grown i n = (word m p i + n) % 2 ^ 32

  pub added_length : length (added m p s) ≡ length m
  unfolding added
  added_length = four_length m (5 * p) (grown 1 s.e0) (grown 2 s.e1) (grown 3 s.e2) (grown 4 s.e3)

  picked : (l : Lane)
      → pick l (word m p 0) (grown 1 s.e0) (grown 2 s.e1) (grown 3 s.e2) (grown 4 s.e3) % 2 ^ 32 ≡ (word m p (place l) + share l s) % 2 ^ 32
  picked errors = omega arith
  picked sums0 = omega arith
  picked sums1 = omega arith
  picked sums2 = omega arith
  picked sums3 = omega arith

  pub added_here : 5 * p + 5 ≤ length m → (l : Lane) → cell (added m p s) p l ≡ (word m p (place l) + share l s) % 2 ^ 32
  unfolding added
  added_here h l =
      ap (λ (n : ℕ). n % 2 ^ 32) (four_at m (5 * p) (grown 1 s.e0) (grown 2 s.e1) (grown 3 s.e2) (grown 4 s.e3) h l) ∙ picked l

  pub added_there : (q : ℕ) → q ≢ p → (l : Lane) → word (added m p s) q (place l) ≡ word m q (place l)
  unfolding added
  added_there q differs l =
      let small = place_small l in
      four_other m (5 * p) (grown 1 s.e0) (grown 2 s.e1) (grown 3 s.e2) (grown 4 s.e3) (5 * q + place l)
      (omega arith) (omega arith) (omega arith) (omega arith)
