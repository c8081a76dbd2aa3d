-- A channel row by row: from opening on one call for each row, as request [1] of document 02 defines it.
use Rattle.std.specs.Prelude.{List, [], ◌≡◌, ℕ, zero, suc, ◌+◌, ◌*◌, ◌<◌, ℤ, length, take, drop}
use Rattle.integer.specs.Fill.{tabulate}
use Rattle.row.specs.Row.{Ended, all, halted, Row, row_of, unpacks}
use Rattle.channel.specs.Calls.{calls}
use Rattle.channel.specs.Channel.{Told}

module _ (t : Told) (y : ℕ) where
  -- the residuals of row y
  abbrev pub residuals_of : List ℤ
  residuals_of = tabulate (λ i. t.residual (y * t.width + i)) t.width

  -- its reference rows one after the other, of one length
  pub record Packed (references : List ℤ) : Type 0 where
    pub each : ℕ
    pub long : length references ≡ t.width * each
    pub part : (i : ℕ) → i < t.width → take each (drop (i * each) references) ≡ t.references (y * t.width + i)

-- references are packed for each row, and a list of contexts is lent
module _ (t : Told) (references : ℕ → List ℤ) (lent : ℕ → List ℕ) (records plane cells : List ℤ) (memory : List ℕ) where
  -- where the rows before stand as unpacked, the call of row y; a refused one stays the last
  abbrev pub one_row : ℕ → Row → Ended → Row
  one_row y before (all s) = unpacks s (residuals_of t y) (references y) records before.plane (lent y) before.cells before.memory
  one_row y before (halted pixels number details s) = before

  -- after y rows
  unfoldable pub row_calls : ℕ → Row
  row_calls zero =
      let opened = calls t records plane cells memory 0 in
      row_of (all opened.session) opened.plane [] opened.cells opened.memory
  row_calls (suc y) = one_row y (row_calls y) (row_calls y).ended
