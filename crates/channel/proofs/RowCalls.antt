-- Row call after row call from opening on: none is refused while every walk answers, and they leave what the channel's own definition says.
use lib.IntN.{ℤ}
use lib.ListN.{length}
use mathlib.Core.List.{List, ◌++◌, map}
use mathlib.Core.Path.{◌≡◌, refl, ap, ◌∙◌}
use native.Mathlib.Nat.{zero-mul}
use native.Mathlib.Omega.{arith}
use Rattle.std.specs.Prelude.{Ok}
use Prim.Native.Nat.{ℕ, zero, suc, ◌+◌, ◌*◌, ◌≤◌, ◌<◌}
use Rattle.agreement.specs.Covers.{Covers, OffsetsFit}
use Rattle.flatten.specs.Queue.{record_count}
use Rattle.flatten.specs.Records.{record_words}
use Rattle.integer.specs.Fill.{tabulate}
use Rattle.refusal.specs.Paper.{Outcome, gives, refuses, said}
use Rattle.row.specs.Row.{Row, row_of, all}
use Rattle.validation.proofs.ToDo.{nodes}
use Rattle.validation.specs.Validation.{validation}
use Rattle.walk.specs.declared.PredictionResult.{PredictionResult}
use Rattle.channel.specs.Calls.{Before, calls, Arguments, Sound}
use Rattle.channel.specs.Channel.{Told, scan}
use Rattle.channel.specs.Rows.{Packed, row_calls}
use Rattle.channel.proofs.Accepted.{Unpacks, channel_unpacks, sound}
use Rattle.channel.proofs.Rows.{walk_at, in_plane, row_unpacks, row_contexts}
use Rattle.channel.proofs.Turns.{some_columns}

-- what a walk answers, with something for a refusal
abbrev result_or : PredictionResult → Outcome PredictionResult → PredictionResult
result_or else (gives r) = r
result_or else (refuses number details) = else

-- ---- what is said of row calls

-- no row was refused, and session, plane, cells and memory are those of the single calls
pub record SameCalls (it : Row) (b : Before) : Type 0 where
  pub none_refused : it.ended ≡ all b.session
  pub plane_is : it.plane ≡ b.plane
  pub cells_are : it.cells ≡ b.cells
  pub memory_is : it.memory ≡ b.memory

module _ (t : Told) (references : ℕ → List ℤ) (lent : ℕ → List ℕ) (records plane cells : List ℤ) (memory : List ℕ) where
  pub record RowsUnpack (rows : ℕ) : Type 0 where
    pub same : (y : ℕ) → y ≤ rows → SameCalls (row_calls t references lent records plane cells memory y) (calls t records plane cells memory (y * t.width))
    pub contexts_are : (y : ℕ) → y < rows
        → (calls t records plane cells memory (suc y * t.width)).contexts
        ≡ (calls t records plane cells memory (y * t.width)).contexts ++ map gives (row_calls t references lent records plane cells memory (suc y)).contexts
    pub plane_is : (row_calls t references lent records plane cells memory rows).plane ≡ (scan t plane cells memory (length plane)).plane

-- ---- where no walk is refused

module _
    (t : Told) (words records plane cells : List ℤ) (memory : List ℕ) (rows : ℕ) (sound : Sound t records plane cells memory rows)
    (unpacks : Unpacks t words records plane cells memory)
    (references : ℕ → List ℤ) (packed : (y : ℕ) → y < rows → Packed t y (references y))
    (lent : ℕ → List ℕ) (long : (y : ℕ) → y < rows → length (lent y) ≡ t.width)
  where
    abbrev now : ℕ → Before
    now k = calls t records plane cells memory k

    abbrev rows_done : ℕ → Row
    rows_done y = row_calls t references lent records plane cells memory y

    abbrev Same : ℕ → Type 0
    Same y = SameCalls (rows_done y) (now (y * t.width))

    module _ (y : ℕ) (inside : y < rows) where
      at_row : (i : ℕ) → i < t.width → y * t.width + i < length plane
      at_row = in_plane t records plane cells memory rows sound y inside

      result : ℕ → PredictionResult
      result i =
          result_or (unpacks.answers (y * t.width + 0) (at_row 0 (some_columns t records plane cells memory rows sound))).result
          (walk_at t plane cells memory (y * t.width + i))

      answers : (i : ℕ) → i < t.width → walk_at t plane cells memory (y * t.width + i) ≡ gives (result i)
      unfolding result
      answers i below = let walks = (unpacks.answers (y * t.width + i) (at_row i below)).walks in rw walks

      stands : (scan t plane cells memory (y * t.width)).stands ≡ gives tt
      stands = unpacks.stands (y * t.width) (omega (arith, at_row 0 (some_columns t records plane cells memory rows sound)))

      abbrev after_row : Before → Row
      after_row b = row_of (all b.session) b.plane (tabulate (λ i. (result i).context) t.width) b.cells b.memory

      row_after : Same y → rows_done (suc y) ≡ after_row (now (suc y * t.width))
      unfolding row_calls
      row_after same =
          rw (same.none_refused, same.plane_is, same.cells_are, same.memory_is)
          (row_unpacks t records plane cells memory rows sound y inside stands result answers (references y) (packed y inside) (lent y) (long y inside))

    same_calls : (y : ℕ) → y ≤ rows → Same y
    unfolding row_calls
    same_calls zero early = rw zero-mul (record { none_refused = refl; plane_is = refl; cells_are = refl; memory_is = refl })
    same_calls (suc y) early =
        let is = row_after y early (same_calls y (omega arith)) in
        rw is (record { none_refused = refl; plane_is = refl; cells_are = refl; memory_is = refl })

    pub rows_unpacked : RowsUnpack t references lent records plane cells memory rows
    rows_unpacked =
        record {
          same = same_calls;
          contexts_are = λ y inside.
              rw (row_after y inside (same_calls y (omega arith)))
              (row_contexts t records plane cells memory rows sound y inside (stands y inside) (result y inside) (answers y inside));
          plane_is =
              let last : rows * t.width ≡ length plane = omega (arith, sound.arguments.whole) in
              (same_calls rows (omega arith)).plane_is
              ∙ ap (λ (k : ℕ). (now k).plane) last
              ∙ (unpacks.follows (length plane) (omega arith)).plane_is;
        }

-- ---- over the records of an accepted list of nodes

module _
    (words work : List ℤ) (accepted : said {A = Unit} (Ok tt) ≡ validation words (length work)) (some : 0 < length words) (offsets : OffsetsFit words (nodes words))
    (t : Told) (records plane cells : List ℤ) (memory : List ℕ) (rows : ℕ) (arguments : Arguments t records plane cells memory rows)
    (records_are : records ≡ record_words words (record_count words (nodes words))) (covers : Covers words (nodes words) cells)
    (references : ℕ → List ℤ) (packed : (y : ℕ) → y < rows → Packed t y (references y))
    (lent : ℕ → List ℕ) (long : (y : ℕ) → y < rows → length (lent y) ≡ t.width)
  where
    pub rows_unpack : RowsUnpack t references lent records plane cells memory rows
    rows_unpack =
        rows_unpacked t words records plane cells memory rows
        (sound words work accepted some offsets t records plane cells memory rows arguments records_are covers)
        (channel_unpacks words work accepted some offsets t records plane cells memory rows arguments records_are covers)
        references packed lent long
