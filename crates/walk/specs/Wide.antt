-- 64-bit words, as integer's Word is for 32: a sum that wraps at 64 bits is `wrap64` of the sum of whole numbers.
use Rattle.std.specs.Prelude.{ℕ, ◌-◌, ◌%◌, ◌^◌, ℤ, pos, negsuc}
use Rattle.std.specs.Int.{w64}
use Rattle.std.proofs.Common.{to_z}

-- z modulo 2^64: the bit pattern of its low 64 bits
abbrev pub bits_of64 : ℤ → ℕ
bits_of64 (pos n) = n % 2 ^ 64
bits_of64 (negsuc n) = (2 ^ 64 - 1) - n % 2 ^ 64

-- the low 64 bits of z as signed: the one number of -2^63 .. 2^63-1 that differs from z by a multiple of 2^64
abbrev pub wrap64 : ℤ → ℤ
wrap64 z = to_z w64 (bits_of64 z)
