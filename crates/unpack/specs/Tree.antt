-- A tree made ready: validated, then its mask, then flattened; the first refusal counts.
use Rattle.std.specs.Prelude.{List, ℕ, ◌*◌, ℤ}
use Rattle.flatten.specs.Flatten.{flattening}
use Rattle.nodes.specs.Mask.{mask_of}
use Rattle.nodes.specs.Nodes.{then}
use Rattle.refusal.specs.Paper.{Outcome, gives, refuses}
use Rattle.validation.specs.Validation.{validation}
use Rattle.unpack.specs.declared.tree.Flat.{Flat}

abbrev pub with_records : ℕ → Outcome ℕ → Outcome Flat
with_records mask (gives count) = gives (record { mask = mask; words = 6 * count })
with_records mask (refuses number details) = refuses number details

abbrev pub with_mask : Outcome ℕ → Outcome ℕ → Outcome Flat
with_mask (gives mask) records = with_records mask records
with_mask (refuses number details) records = refuses number details

-- the records have so many words of room
abbrev pub flat_of : List ℤ → ℕ → Outcome Flat
flat_of nodes room = then (validation nodes 10762) (with_mask (mask_of nodes) (flattening nodes 8192 room))
