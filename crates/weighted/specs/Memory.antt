-- Module 4 of document 01, the lent memory: two halves of width + 2 positions, odd rows write the first. A position holds a signed
-- error and four unsigned sums, position k in words 5k to 5k + 4.
use Rattle.std.specs.Prelude.{List, ℕ, ◌+◌, ◌-◌, ◌*◌, ◌%◌, ◌^◌, ltb, eqb, ℤ, pos, get_or, set}
use Rattle.arith.specs.declared.Four.{Four}
use Rattle.blend.specs.declared.PixelErrors.{PixelErrors}
use Rattle.blend.specs.declared.TrueErrors.{TrueErrors}
use Rattle.integer.specs.Order.{if}
use Rattle.integer.specs.Word.{wrap, bits_of}

abbrev pub positions : ℕ → ℕ
positions width = width + 2

-- the words that must be lent
abbrev pub needed : ℕ → ℕ
needed width = 10 * positions width

-- where the half begins that row y writes, and the half that the row above wrote
abbrev pub current : ℕ → ℕ → ℕ
current width y = if (eqb (y % 2) 0) (positions width) 0

abbrev pub previous : ℕ → ℕ → ℕ
previous width y = if (eqb (y % 2) 0) 0 (positions width)

-- ---- reading

-- word i of position k
abbrev pub word : List ℕ → ℕ → ℕ → ℕ
word m k i = get_or m (5 * k + i) 0

unfoldable pub error_at : List ℕ → ℕ → ℤ
error_at m k = wrap (pos (word m k 0))

-- the sums of three positions, wrapping in 32 bits
abbrev pub words_added : List ℕ → ℕ → ℕ → ℕ → ℕ → ℕ
words_added m a b c i = (word m a i + word m b i + word m c i) % 2 ^ 32

-- what is read for column x of row y: NW is N in the first column, NE is N in the last; W's error is 0 in the first
module _ (m : List ℕ) (width x y : ℕ) where
  abbrev pub at_n : ℕ
  at_n = previous width y + x

  abbrev pub at_nw : ℕ
  at_nw = if (ltb 0 x) (at_n - 1) at_n

  abbrev pub at_ne : ℕ
  at_ne = if (ltb (x + 1) width) (at_n + 1) at_n

  unfoldable pub errors_read : TrueErrors
  errors_read =
      record {
        w = if (ltb 0 x) (error_at m (current width y + x - 1)) (pos 0);
        n = error_at m at_n;
        nw = error_at m at_nw;
        ne = error_at m at_ne;
      }

  unfoldable pub sums_read : Four
  sums_read =
      record {
        e0 = words_added m at_n at_ne at_nw 1;
        e1 = words_added m at_n at_ne at_nw 2;
        e2 = words_added m at_n at_ne at_nw 3;
        e3 = words_added m at_n at_ne at_nw 4;
      }

-- ---- writing

-- position k holds these errors
unfoldable pub stored : List ℕ → ℕ → PixelErrors → List ℕ
stored m k e =
    set
    (set (set (set (set m (5 * k) (bits_of e.error)) (5 * k + 1) e.sub.e0) (5 * k + 2) e.sub.e1) (5 * k + 3) e.sub.e2)
    (5 * k + 4)
    e.sub.e3

-- these are added to the sums of position k, wrapping
unfoldable pub added : List ℕ → ℕ → Four → List ℕ
added m k s =
    set
    (set
    (set (set m (5 * k + 1) ((word m k 1 + s.e0) % 2 ^ 32)) (5 * k + 2) ((word m k 2 + s.e1) % 2 ^ 32))
    (5 * k + 3)
    ((word m k 3 + s.e2) % 2 ^ 32))
    (5 * k + 4)
    ((word m k 4 + s.e3) % 2 ^ 32)

-- the current position holds the pixel's errors, and they join the sums of the next position of the other half
abbrev pub updated : List ℕ → ℕ → ℕ → ℕ → PixelErrors → List ℕ
updated m width x y e = added (stored m (current width y + x) e) (previous width y + x + 1) e.sub
