-- 32-bit words. Every wrapping operation of the library is `wrap` of the operation on whole numbers.
use Rattle.std.specs.Prelude.{ℕ, ◌-◌, ◌%◌, ◌^◌, ℤ, pos, negsuc}
use Rattle.std.specs.Int.{w32}
use Rattle.std.proofs.Common.{to_z}

-- z modulo 2^32: the bit pattern of its low word
abbrev pub bits_of : ℤ → ℕ
bits_of (pos n) = n % 2 ^ 32
bits_of (negsuc n) = (2 ^ 32 - 1) - n % 2 ^ 32

-- the low word of z as signed: the one number of -2^31 .. 2^31-1 that differs from z by a multiple of 2^32
abbrev pub wrap : ℤ → ℤ
wrap z = to_z w32 (bits_of z)
