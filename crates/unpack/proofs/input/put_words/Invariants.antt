-- k words are those of the bytes, the rest are as they were.
use mathlib.Core.Path.{◌≡◌}
use Rattle.integer.specs.Fill.{filled}
use Rattle.unpack.specs.Bytes.{word_at}
use Rattle.unpack.proofs.input.put_words.Given as goal

abbrev pub invariant-loop-k : goal.invariant-loop-k
invariant-loop-k l = l.words ≡ filled (word_at l.bytes) l.k l.fn.words
