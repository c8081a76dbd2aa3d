-- A channel by rows: what `matuviso_run_rows` answers and writes, by the definition that a row's call promises.
use Rattle.std.specs.Prelude.{Bool, ◌&&◌, List, ◌++◌, ℕ, zero, suc, ◌+◌, ◌*◌, ◌/◌, leb, ℤ, length, take, drop}
use Rattle.blend.specs.declared.WeightedHeader.{WeightedHeader}
use Rattle.integer.specs.Order.{if}
use Rattle.lab_weighted.specs.Told.{header_of}
use Rattle.row.specs.Row.{Answer, answer_of, complete, stopped, session_of, unpacks}
use Rattle.session.specs.Session.{opens}
use Rattle.session.specs.declared.Session.{Session}
pub use Rattle.told.specs.Channel.{End, ended, stepped, Ends, ends_determined}

-- the words of row y
abbrev pub part_at : {A : Type 0} → ℕ → ℕ → List A → List A
part_at width y words = take width (drop (y * width) words)

-- the words with these as row y
abbrev pub put_at : ℕ → ℕ → List ℕ → List ℕ → List ℕ
put_at width y row words = take (y * width) words ++ (row ++ drop width (drop (y * width) words))

-- a stopped row ends it
abbrev pub row_stepped : Answer → (ℕ → End) → End → End
row_stepped complete ends goes_on = goes_on
row_stepped (stopped pixels number details) ends goes_on = ends number

module _ (width : ℕ) (references records residuals : List ℤ) where
  -- so many rows from row y on
  unfoldable pub rows_from : ℕ → ℕ → Session → List ℤ → List ℕ → List ℤ → List ℕ → End
  rows_from zero y s plane contexts cells m = ended 0 plane contexts cells m
  rows_from (suc n) y s plane contexts cells m =
      let row = unpacks s (part_at width y residuals) references records plane (part_at width y contexts) cells m in
      row_stepped (answer_of row.ended)
      (λ number. ended number row.plane (put_at width y row.contexts contexts) row.cells row.memory)
      (rows_from n (y + 1) (session_of row.ended) row.plane (put_at width y row.contexts contexts) row.cells row.memory)

  -- from opening on, each whole row
  abbrev pub opened : WeightedHeader → Bool → ℕ → ℤ → ℤ → List ℤ → List ℕ → List ℤ → List ℕ → End
  opened h weights mask number stream plane contexts cells m =
      let o = opens width h weights mask number stream cells m in
      stepped o.says
      (λ number. ended number plane contexts o.cells o.memory)
      (λ s. rows_from (length residuals / width) 0 s plane contexts o.cells o.memory)

  -- 8 where header or contexts have too few words
  abbrev pub channel : List ℕ → Bool → ℕ → ℤ → ℤ → List ℤ → List ℕ → List ℤ → List ℕ → End
  channel header weights mask number stream plane contexts cells m =
      if (leb 11 (length header) && leb (length residuals) (length contexts))
      (opened (header_of header) weights mask number stream plane contexts cells m)
      (ended 8 plane contexts cells m)
