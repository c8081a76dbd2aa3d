-- What shape check and validation answer: of all answers that keep a promise there is one.
use Rattle.std.specs.Prelude.{List, ◌≡◌, ◌<◌, ℤ, length, Result}
use Rattle.refusal.specs.Paper.{Outcome, gives, said, one_result}
use Rattle.refusal.specs.declared.Refusal.{Refusal}
use Rattle.validation.specs.Shape.{shape}

pub verdict_determined : {v : Outcome Unit} (r s : Result Unit Refusal) → said r ≡ v → said s ≡ v → r ≡ s
verdict_determined r s p q = one_result r s p q

-- a list of sound shape that is not empty
abbrev pub SoundList : List ℤ → Type 0
SoundList words = (shape words ≡ gives tt) × (0 < length words)
