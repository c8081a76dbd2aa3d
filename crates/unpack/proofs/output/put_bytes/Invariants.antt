-- i bytes are written, the rest are as they were.
use mathlib.Core.Path.{◌≡◌}
use Prim.Native.Nat.{◌+◌}
use Rattle.integer.specs.Fill.{filled}
use Rattle.unpack.specs.Bytes.{byte_of}
use Rattle.unpack.proofs.output.put_bytes.Given as goal

abbrev pub invariant-loop-i : goal.invariant-loop-i
invariant-loop-i l = l.bytes ≡ filled (λ k. byte_of l.picture l.plane (l.from + k)) l.i l.fn.bytes
