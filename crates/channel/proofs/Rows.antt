-- One call for each row leaves what ask and put of each pixel leave.
use borrow.Author.Tests.{eq-eqb}
use lib.IntN.{ℤ, pos}
use lib.ListN.{length, get_or, set, take}
use lib.Seq.{length-take-le}
use mathlib.Core.List.{List, [], ◌∷◌, ◌++◌, map, append-nil, append_assoc, map-append}
use mathlib.Core.Path.{◌≡◌, refl, sym, ap, ap₂, ◌∙◌}
use native.Mathlib.Nat.{add-zero, zero-add, add-suc, zero-mul, mul-le-mul_right, mul-div_right, mul-mod_left, mul-mod_right}
use native.Mathlib.Omega.{arith}
use Prim.Native.Nat.{ℕ, zero, suc, ◌+◌, ◌-◌, ◌*◌, ◌/◌, ◌%◌, ◌≤◌, ◌<◌}
use Rattle.integer.proofs.Fill.{tabulate_length, tabulated, filled_none, filled_more, filled_all}
use Rattle.integer.specs.Fill.{tabulate, filled}
use Rattle.refusal.specs.Paper.{Outcome, gives, refuses}
use Rattle.row.specs.Row.{Row, row_of, all, halted, part_of, pixels_from, may_unpack, unpacks_by, unpacks}
use Rattle.session.specs.Session.{width, asks, puts}
use Rattle.walk.specs.declared.PredictionResult.{PredictionResult}
use Rattle.channel.specs.Calls.{Before, one_pixel, calls, Sound}
use Rattle.channel.specs.Channel.{Told, seven, predicted, cells_of, after, pixel, scan}
use Rattle.channel.specs.Rows.{residuals_of, Packed}
use Rattle.channel.proofs.Standing.{Said, Stands, stands_at, ask_said, ask_shuts}
use Rattle.channel.proofs.Turns.{some_columns, is_pixel_lem, sayable}

-- ---- a pixel that is not refused

module _ (residuals references records : List ℤ) (each : ℕ) where
  abbrev rest : ℕ → ℕ → Before → List ℕ → Row
  rest n k b contexts = pixels_from residuals references records each n k b.session b.plane contexts b.cells b.memory

  pixel_passes : (n k : ℕ) (b : Before) (contexts : List ℕ) (own : List ℤ) (residual : ℤ) (context : ℕ)
      → part_of residuals references records each k ≡ own → get_or residuals k (pos 0) ≡ residual
      → (asks b.session b.plane own records b.cells b.memory).says ≡ gives context
      → (puts (asks b.session b.plane own records b.cells b.memory).session residual b.plane b.memory).says ≡ gives tt
      → rest (suc n) k b contexts ≡ rest n (k + 1) (one_pixel b own records residual) (set contexts k context)
  unfolding pixels_from
  pixel_passes n k b contexts own residual context its is asked put = rw (its, is, asked, put)

  pixel_stops : (n k : ℕ) (b : Before) (contexts : List ℕ) (own : List ℤ) (number : ℕ) (details : List ℤ)
      → part_of residuals references records each k ≡ own
      → (asks b.session b.plane own records b.cells b.memory).says ≡ refuses number details
      → rest (suc n) k b contexts
      ≡ row_of (halted k number details (asks b.session b.plane own records b.cells b.memory).session) b.plane contexts
      (asks b.session b.plane own records b.cells b.memory).cells b.memory
  unfolding pixels_from
  pixel_stops n k b contexts own number details its asked = rw (its, asked)

-- ---- the pixels of a row

module _ (t : Told) (plane cells : List ℤ) (memory : List ℕ) where
  -- what the walk of pixel k says
  abbrev pub walk_at : ℕ → Outcome PredictionResult
  walk_at k =
      let s = scan t plane cells memory k in
      t.walk (cells_of t s k) (seven t s k) (predicted t s k).guess

module _ (t : Told) (records plane cells : List ℤ) (memory : List ℕ) (rows : ℕ) (sound : Sound t records plane cells memory rows) where
  pub in_plane : (y : ℕ) → y < rows → (i : ℕ) → i < t.width → y * t.width + i < length plane
  in_plane y inside i below =
      let next : suc y * t.width ≤ rows * t.width = mul-le-mul_right t.width inside in
      omega (arith, sound.arguments.whole)

module _
    (t : Told) (records plane cells : List ℤ) (memory : List ℕ) (rows : ℕ) (sound : Sound t records plane cells memory rows)
    (y : ℕ) (inside : y < rows) (stands : (scan t plane cells memory (y * t.width)).stands ≡ gives tt)
    (upto : ℕ) (early : upto ≤ t.width) (r : ℕ → PredictionResult)
    (walks : (i : ℕ) → i < upto → walk_at t plane cells memory (y * t.width + i) ≡ gives (r i))
  where
    abbrev first : ℕ
    first = y * t.width

    abbrev context : ℕ → ℕ
    context i = (r i).context

    stands_on : (i : ℕ) → i ≤ upto → (scan t plane cells memory (first + i)).stands ≡ gives tt
    unfolding scan
    stands_on zero within = rw add-zero stands
    stands_on (suc i) within =
        let k = first + i in
        let s = scan t plane cells memory k in
        rw add-suc
        (ap (λ (o : Outcome Unit). (pixel t s k o).stands) (stands_on i (omega arith))
        ∙ ap (λ (o : Outcome PredictionResult). (after t s k o).stands) (walks i within))

    -- the ask of each says its context, and no put is refused
    row_said : (i : ℕ) → i < upto → Said t records (calls t records plane cells memory (first + i)) (first + i) (r i)
    row_said i below =
        ask_said t records plane cells memory rows sound (first + i) (in_plane t records plane cells memory rows sound y inside i (omega arith)) (r i) (stands_on i (omega arith)) (walks i below)

    -- the contexts of the row
    said_before : (i : ℕ) → i ≤ upto
        → (calls t records plane cells memory (first + i)).contexts ≡ (calls t records plane cells memory first).contexts ++ map gives (tabulate context i)
    unfolding calls tabulate
    said_before zero within = rw add-zero (sym (append-nil _))
    said_before (suc i) within =
        let before = (calls t records plane cells memory first).contexts in
        rw add-suc
        (ap₂ (λ (l : List (Outcome ℕ)) (o : Outcome ℕ). l ++ (o ∷ [])) (said_before i (omega arith)) (row_said i within).asked
        ∙ append_assoc before (map gives (tabulate context i)) (gives (context i) ∷ [])
        ∙ ap (λ (l : List (Outcome ℕ)). before ++ l) (sym (map-append gives (tabulate context i) (context i ∷ []))))

    module _ (references : List ℤ) (packed : Packed t y references) (contexts : List ℕ) (lent : length contexts ≡ t.width) where
      abbrev on : ℕ → ℕ → Before → List ℕ → Row
      on = rest (residuals_of t y) references records packed.each

      abbrev now : ℕ → Before
      now k = calls t records plane cells memory k

      from : (n i more : ℕ) → i + n ≡ upto → on (n + more) i (now (first + i)) (filled context i contexts) ≡ on more upto (now (first + upto)) (filled context upto contexts)
      unfolding calls
      from zero i more all_of =
          let ends : i ≡ upto = omega arith in
          rw (ends, zero-add more)
      from (suc n) i more all_of =
          let below : i < t.width = omega arith in
          let said = row_said i (omega arith) in
          let residual : get_or (residuals_of t y) i (pos 0) ≡ t.residual (first + i) = tabulated (λ j. t.residual (first + j)) t.width i (pos 0) below in
          let next : suc (first + i) ≡ first + (i + 1) = omega arith in
          let one : suc n + more ≡ suc (n + more) = omega arith in
          rw one
          (pixel_passes (residuals_of t y) references records packed.each (n + more) i (now (first + i)) (filled context i contexts) (t.references (first + i))
          (t.residual (first + i)) (context i) (packed.part i below) residual said.asked said.put
          ∙ ap₂ (on (n + more) (i + 1)) (ap now next) (filled_more context i contexts (omega arith))
          ∙ from n (i + 1) more (omega arith))

      -- ---- its tests pass

      abbrev may : Before → Outcome Unit
      may b = may_unpack b.session (length b.plane) (length (residuals_of t y)) (length contexts) (length references)

      some : 0 < t.width
      some = some_columns t records plane cells memory rows sound

      start : first < length plane
      start = omega (arith, in_plane t records plane cells memory rows sound y inside 0 some)

      here : Stands t records plane cells memory rows sound first (scan t plane cells memory first) (now first)
      here = stands_at t records plane cells memory rows sound first (omega (arith, start)) stands

      wide : width (now first).session ≡ t.width
      wide = ap (λ (b : Before). width b.session) here.is

      -- a pixel's share of the reference cells
      share : length references / t.width ≡ packed.each
      share = rw packed.long (mul-div_right packed.each some)

      one_share : packed.each ≡ length (t.references first)
      one_share =
          let fits : 1 * packed.each ≤ t.width * packed.each = mul-le-mul_right packed.each some in
          let own : take packed.each references ≡ t.references first = rw zero-mul at (packed.part 0 some) ∙ ap t.references (add-zero first) in
          sym (length-take-le packed.each references (omega (arith, packed.long))) ∙ ap length own

      may_unpack_lem : may (now first) ≡ gives tt
      may_unpack_lem =
          ap may here.is
          ∙ simp (
            sound.arguments.header_in_range,
            is_pixel_lem t records plane cells memory rows sound first start (length (scan t plane cells memory first).plane) here.kept.long,
            tabulate_length (λ i. t.residual (first + i)) t.width,
            lent,
            eq-eqb t.width t.width refl,
            eq-eqb (length references % t.width) 0 (rw packed.long (mul-mod_right t.width packed.each)),
            share ∙ one_share,
            sayable t records plane cells memory rows sound first start,
            eq-eqb (first % t.width) 0 (mul-mod_left y t.width),
          )

      comes_to : (more : ℕ) → upto + more ≡ t.width
          → unpacks (now first).session (residuals_of t y) references records (now first).plane contexts (now first).cells (now first).memory
          ≡ on more upto (now (first + upto)) (filled context upto contexts)
      unfolding unpacks
      comes_to more all_of =
          let b = now first in
          let pixels : ℕ → ℕ → Row = λ each n. rest (residuals_of t y) references records each n 0 b contexts in
          ap (λ (o : Outcome Unit). unpacks_by o (pixels (length references / width b.session) (width b.session)) b.session b.plane contexts b.cells b.memory) may_unpack_lem
          ∙ ap (λ (n : ℕ). pixels (length references / n) n) wide
          ∙ ap₂ pixels share (sym all_of)
          ∙ ap₂ (on (upto + more) 0) (ap now (sym (add-zero first))) (sym (filled_none context contexts))
          ∙ from upto 0 more (omega arith)

-- ---- the theorems

module _
    (t : Told) (records plane cells : List ℤ) (memory : List ℕ) (rows : ℕ) (sound : Sound t records plane cells memory rows)
    (y : ℕ) (inside : y < rows) (stands : (scan t plane cells memory (y * t.width)).stands ≡ gives tt) (r : ℕ → PredictionResult)
  where
    abbrev pub at_pixel : ℕ → Before
    at_pixel k = calls t records plane cells memory k

    -- the call of row y, from what the single calls before it have left
    abbrev pub row_call : List ℤ → List ℕ → Row
    row_call references contexts =
        let b = at_pixel (y * t.width) in
        unpacks b.session (residuals_of t y) references records b.plane contexts b.cells b.memory

    -- where each walk of the row gives an answer
    module _ (walks : (i : ℕ) → i < t.width → walk_at t plane cells memory (y * t.width + i) ≡ gives (r i)) where
      pub row_contexts : (at_pixel (suc y * t.width)).contexts ≡ (at_pixel (y * t.width)).contexts ++ map gives (tabulate (λ i. (r i).context) t.width)
      row_contexts =
          let next : y * t.width + t.width ≡ suc y * t.width = omega arith in
          rw next at (said_before t records plane cells memory rows sound y inside stands t.width (omega arith) r walks t.width (omega arith))

      pub row_unpacks : (references : List ℤ) → Packed t y references → (contexts : List ℕ) → length contexts ≡ t.width
          → row_call references contexts
          ≡ row_of (all (at_pixel (suc y * t.width)).session) (at_pixel (suc y * t.width)).plane (tabulate (λ i. (r i).context) t.width)
          (at_pixel (suc y * t.width)).cells (at_pixel (suc y * t.width)).memory
      unfolding pixels_from
      row_unpacks references packed contexts lent =
          let next : y * t.width + t.width ≡ suc y * t.width = omega arith in
          comes_to t records plane cells memory rows sound y inside stands t.width (omega arith) r walks references packed contexts lent 0 (omega arith)
          ∙ rw (next, filled_all (λ i. (r i).context) t.width contexts lent)

    -- where pixel i's is the first that is refused: what the single calls leave, that pixel's included, and the contexts before it
    module _
        (i number : ℕ) (details : List ℤ) (below : i < t.width)
        (walks : (j : ℕ) → j < i → walk_at t plane cells memory (y * t.width + j) ≡ gives (r j))
        (refused : walk_at t plane cells memory (y * t.width + i) ≡ refuses number details)
      where
        pub row_stops : (references : List ℤ) → Packed t y references → (contexts : List ℕ) → length contexts ≡ t.width
            → row_call references contexts
            ≡ row_of (halted i number details (at_pixel (suc (y * t.width + i))).session) (at_pixel (suc (y * t.width + i))).plane (filled (λ j. (r j).context) i contexts)
            (at_pixel (suc (y * t.width + i))).cells (at_pixel (suc (y * t.width + i))).memory
        unfolding calls
        row_stops references packed contexts lent =
            let k = y * t.width + i in
            let more = t.width - suc i in
            let kept = stands_on t records plane cells memory rows sound y inside stands i (omega arith) r walks i (omega arith) in
            let shut = ask_shuts t records plane cells memory rows sound k (in_plane t records plane cells memory rows sound y inside i below) number details kept refused in
            comes_to t records plane cells memory rows sound y inside stands i (omega arith) r walks references packed contexts lent (suc more) (omega arith)
            ∙ pixel_stops (residuals_of t y) references records packed.each more i (at_pixel k) (filled (λ j. (r j).context) i contexts) (t.references k) number details
            (packed.part i below) shut.asked
            ∙ rw (shut.session_is, shut.plane_is, shut.memory_is)
