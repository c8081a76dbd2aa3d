-- Opening, and one row of a channel: the channel goes on from what opening, or the row, leaves, or ends at its refusal.
use borrow.Author.Tests.{leb-true}
use lib.Dec.{leb}
use lib.IntN.{ℤ}
use lib.ListN.{length}
use mathlib.Core.Bool.{Bool}
use mathlib.Core.List.{List}
use mathlib.Core.Path.{◌≡◌, refl, sym}
use native.Mathlib.Omega.{arith}
use Prim.Native.Nat.{ℕ, suc, ◌+◌, ◌-◌, ◌≤◌, ◌<◌, ◌/◌}
use Rattle.blend.specs.declared.WeightedHeader.{WeightedHeader}
use Rattle.integer.proofs.Tests.{and_left}
use Rattle.refusal.proofs.Outcomes.{no_refusal}
use Rattle.refusal.specs.Paper.{Outcome, gives, refuses, number_of}
use Rattle.row.specs.Row.{Row, answer_of, complete, said, session_of, unpacks}
use Rattle.row.specs.declared.Stopped.{Stopped}
use Rattle.session.proofs.Granted.{open_granted}
use Rattle.session.specs.Session.{Opening, open_by, opens}
use Rattle.session.specs.declared.Session.{Session}
use Rattle.std.proofs.Common.{Err}
use Rattle.bench_row.specs.Run.{End, ended, opened, part_at, put_at, rows_from}

-- an opening that gives a session has passed its tests
has_passed : (o : Outcome Unit) (next : Opening) (cells : List ℤ) (m : List ℕ) {s : Session} → gives s ≡ (open_by o next cells m).says → o ≡ gives tt
has_passed (gives tt) next cells m e = refl
has_passed (refuses number details) next cells m e = absurd (no_refusal (sym e))

module _ (width : ℕ) (references records residuals : List ℤ) (h : WeightedHeader) (weights : Bool) (mask : ℕ) (number stream : ℤ) (plane : List ℤ) (contexts : List ℕ) (cells : List ℤ) (m : List ℕ) where
  abbrev opening : Opening
  opening = opens width h weights mask number stream cells m

  pub leads_on : {s : Session} {cells' : List ℤ} {m' : List ℕ} → gives s ≡ opening.says → cells' ≡ opening.cells → m' ≡ opening.memory
      → opened width references records residuals h weights mask number stream plane contexts cells m ≡ rows_from width references records residuals (length residuals / width) 0 s plane contexts cells' m'
  leads_on says cells_are memory_is = rw (sym says, cells_are, memory_is)

  -- its width is not 0
  pub some_width : {s : Session} → gives s ≡ opening.says → 1 ≤ width
  unfolding opens
  some_width says =
      let g = open_granted h width weights (length cells) (length m) (has_passed _ _ _ _ says) in
      leb-true 1 width (and_left (leb 1 width) (leb width 65536) g.wide)

module _ (width : ℕ) (references records residuals : List ℤ) (s : Session) (plane : List ℤ) (contexts : List ℕ) (cells : List ℤ) (m : List ℕ) (n y : ℕ) (below : y < n) where
  abbrev here : End
  here = rows_from width references records residuals (n - y) y s plane contexts cells m

  left : n - y ≡ suc (n - (y + 1))
  left = omega arith

  abbrev row : Row
  row = unpacks s (part_at width y residuals) references records plane (part_at width y contexts) cells m

  module _ {plane' : List ℤ} {contexts' : List ℕ} {cells' : List ℤ} {m' : List ℕ} (plane_is : plane' ≡ row.plane) (contexts_are : contexts' ≡ row.contexts) (cells_are : cells' ≡ row.cells) (memory_is : m' ≡ row.memory) where
    pub row_ends : (e : Stopped) → said (Err e) ≡ answer_of row.ended → here ≡ ended (number_of e.refusal) plane' (put_at width y contexts' contexts) cells' m'
    unfolding rows_from
    row_ends e refused = rw (left, sym refused, sym plane_is, sym contexts_are, sym cells_are, sym memory_is)

    pub goes_on : {next : Session} → complete ≡ answer_of row.ended → next ≡ session_of row.ended
        → here ≡ rows_from width references records residuals (n - (y + 1)) (y + 1) next plane' (put_at width y contexts' contexts) cells' m'
    unfolding rows_from
    goes_on done next_is = rw (left, sym done, sym next_is, sym plane_is, sym contexts_are, sym cells_are, sym memory_is)
