-- `save_words` meets its promise: so many words are saved, the rest are as they were.
use mathlib.Core.Path.{◌≡◌}
use Prim.Native.Nat.{◌+◌, ◌*◌}
use Rattle.integer.specs.Fill.{filled}
use Rattle.weighted.specs.Memory.{positions}
use Rattle.weighted.specs.Saved.{saved_word}
use Rattle.weighted.proofs.saving.save_words.Given as goal

abbrev pub invariant-loop-row : goal.invariant-loop-row
invariant-loop-row l = l.saved ≡ filled (saved_word l.memory l.width) (l.row * positions l.width) l.fn.saved

abbrev pub invariant-loop-x : goal.invariant-loop-x
invariant-loop-x l = l.saved ≡ filled (saved_word l.memory l.width) (l.row * positions l.width + l.x) l.fn.saved
