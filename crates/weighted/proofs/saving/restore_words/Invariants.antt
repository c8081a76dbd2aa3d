-- `restore_words` meets its promise: k words are written, the rest are as they were.
use mathlib.Core.Path.{◌≡◌}
use Rattle.integer.specs.Fill.{filled}
use Rattle.weighted.specs.Saved.{restored_word}
use Rattle.weighted.proofs.saving.restore_words.Given as goal

abbrev pub invariant-loop-k : goal.invariant-loop-k
invariant-loop-k l = l.memory ≡ filled (restored_word l.saved l.width) l.k l.fn.memory
