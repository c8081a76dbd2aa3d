-- `shift_right` meets its promise: a shift keeps a word a word, and from 31 bits on nothing but the sign is left.
use Prim.Native.Nat.{ℕ, ◌≤◌, ◌<◌, ◌^◌}
use lib.IntN.{ℤ, pos, negsuc}
use lib.Pow.{pow_mono}
use lib.Signed.{mag, shr_z}
use mathlib.Core.Path.{◌≡◌, ap, sym, ◌∙◌}
use mir.Facts.{to_z-of_z}
use mir.Syntax.{w32}
use mir.Val.{SFits}
use native.Mathlib.Nat.{div-eq_of_lt, lt_of_lt_of_le}
use native.Mathlib.Omega.{arith}
use Rattle.integer.proofs.Bounded.{fits, of_fits, shifted}
use Rattle.integer.proofs.shift_right.Goals as goal

kept : (m : ℕ) {z : ℤ} → SFits w32 z → SFits w32 (shr_z z m)
kept m f = fits tt (shifted m (of_fits f))

-- any divisor above the magnitude leaves the sign
sign_left : (z : ℤ) (m n : ℕ) → mag z < m → mag z < n → shr_z z m ≡ shr_z z n
sign_left (pos a) m n h k = ap pos (div-eq_of_lt h ∙ sym (div-eq_of_lt k))
sign_left (negsuc a) m n h k = ap negsuc (div-eq_of_lt h ∙ sym (div-eq_of_lt k))

pub returns-else-k-lt32 : goal.returns-else-k-lt32
returns-else-k-lt32 c =
    let f = c.ranges.a in
    let small = f.sfits in
    let more : 31 ≤ c.args.k = omega arith in
    simp (to_z-of_z f, to_z-of_z (kept (2 ^ 31) f)) (sign_left c.args.a (2 ^ 31) (2 ^ c.args.k) small (lt_of_lt_of_le small (pow_mono more)))
