-- What flattening answers where nothing is refused.
use borrow.Author.Tests.{ne_eqb, le-ltb}
use lib.IntN.{ℤ}
use lib.ListN.{length}
use mathlib.Core.List.{List}
use mathlib.Core.Path.{◌≡◌}
use Prim.Native.Nat.{ℕ, ◌/◌, ◌≤◌}
use Rattle.refusal.specs.Paper.{gives}
use Rattle.validation.specs.Shape.{shape}
use Rattle.flatten.specs.Flatten.{ring_needed, output_needed, flattening}
use Rattle.flatten.specs.Offsets.{first_wide}
use Rattle.flatten.specs.Queue.{record_count}

pub flattened : (words : List ℤ) (ring output : ℕ) → shape words ≡ gives tt → (length words ≡ 0 → ⊥) → first_wide words (length words / 5) ≡ gives tt
    → ring_needed (length words / 5) ≤ ring
    → output_needed (length words / 5) ≤ output
    → flattening words ring output ≡ gives (record_count words (length words / 5))
flattened words ring output shaped some narrow room enough = simp (shaped, ne_eqb _ _ some, narrow, le-ltb _ _ room, le-ltb _ _ enough)
