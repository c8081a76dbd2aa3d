-- Words and samples as bytes.
use Rattle.std.specs.Prelude.{Bool, List, ◌≡◌, ℕ, ◌+◌, ◌-◌, ◌*◌, ◌/◌, ◌%◌, ◌^◌, min, ℤ, pos, nat_abs, length, get_or}
use Rattle.integer.specs.Fill.{filled}
use Rattle.integer.specs.Order.{if, smaller, larger}
use Rattle.integer.specs.Word.{wrap, bits_of}

-- ---- what is read: word k of the bytes, the low byte first

unfoldable pub word_at : List ℕ → ℕ → ℤ
word_at bytes k =
    wrap (pos (get_or bytes (4 * k) 0 + 256 * get_or bytes (4 * k + 1) 0 + 65536 * get_or bytes (4 * k + 2) 0 + 16777216 * get_or bytes (4 * k + 3) 0))

-- ---- what is written

-- a word is four bytes, the low one first
unfoldable pub word_byte : List ℤ → ℕ → ℕ
word_byte plane i = bits_of (get_or plane (i / 4) (pos 0)) / 256 ^ (i % 4) % 256

-- a sample is the value kept between 0 and 65,535: two bytes, the high one first
abbrev pub sample_of : ℤ → ℕ
sample_of v = nat_abs (smaller (pos 65535) (larger v (pos 0)))

unfoldable pub sample_byte : List ℤ → ℕ → ℕ
sample_byte plane i = sample_of (get_or plane (i / 2) (pos 0)) / 256 ^ (1 - i % 2) % 256

-- byte i of a plane, and how many bytes so many pixels are
abbrev pub byte_of : Bool → List ℤ → ℕ → ℕ
byte_of picture plane i = if picture (sample_byte plane i) (word_byte plane i)

abbrev pub size_of : Bool → ℕ → ℕ
size_of picture pixels = if picture (2 * pixels) (4 * pixels)
