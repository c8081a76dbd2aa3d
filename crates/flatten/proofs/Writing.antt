-- The loop that writes the records: what it keeps, and one record more.
use lib.IntN.{ℤ}
use lib.ListN.{length, drop, length-append, length-drop}
use lib.Seq.{sets, sets-eq, take_at, drop_at, drop-drop}
use mathlib.Core.List.{List, [], ◌∷◌, ◌++◌}
use mathlib.Core.Path.{◌≡◌, refl, sym, ap, ap₂, ◌∙◌}
use native.Mathlib.Numerals.{add-one}
use native.Mathlib.Omega.{arith}
use Prim.Native.Nat.{ℕ, suc, ◌+◌, ◌-◌, ◌*◌, ◌≤◌, ◌<◌}
use Rattle.integer.specs.Fill.{tabulate}
use Rattle.nodes.specs.Nodes.{node_at}
use Rattle.validation.proofs.ToDo.{nodes, Sound}
use Rattle.flatten.specs.Queue.{grandchildren, queued, node_of_record, first_of, record_count}
use Rattle.flatten.specs.Records.{record_for, record_words}
use Rattle.flatten.specs.Ring.{Ends, held, Ready, Puts, Takes}
use Rattle.flatten.proofs.Counts.{SoFar, place_of, at_start_lem, place_inside, next_queued, first_queued, then_queued, one_record_more, ring_room, at_most_records, output_room, none_queued}
use Rattle.flatten.proofs.Flat.{next_words, record_long, words_long}
use Rattle.flatten.proofs.Rounds.{held_length}

-- ---- words written from the front

written_on : (front rest more : List ℤ) (i : ℕ) → length front ≡ i → i + length more ≤ length rest
    → sets (front ++ drop i rest) i more ≡ (front ++ more) ++ drop (i + length more) rest
written_on front rest more i e h =
    let whole = front ++ drop i rest in
    let long : i + length more ≤ length whole = omega (arith, length-append front (drop i rest), length-drop i rest) in
    sets-eq more whole i long
    ∙ ap₂ (λ (a b : List ℤ). a ++ more ++ b) (take_at front (drop i rest) i e)
    (sym (drop-drop (length more) i whole) ∙ ap (drop (length more)) (drop_at front (drop i rest) i e) ∙ drop-drop (length more) i rest)

-- the head and the rest of equal lists
abbrev head_of : List ℕ → ℕ
head_of [] = 0
head_of (p ∷ ps) = p

same_head : {p q : ℕ} {ps qs : List ℕ} → p ∷ ps ≡ q ∷ qs → p ≡ q
same_head e = ap head_of e

same_rest : {p q : ℕ} {ps qs : List ℕ} → p ∷ ps ≡ q ∷ qs → ps ≡ qs
same_rest e = ap (drop 1) e

module _ (words : List ℤ) where
  pub record Writing (output₀ : List ℤ) (ring : Ends) (lent output : List ℤ) (k : ℕ) : Type 0 where
    pub ready : Ready ring lent
    pub roomy : length lent ≡ nodes words + 1
    pub so_far : SoFar words (nodes words) k
    pub holds : held ring lent ≡ drop k (queued words k)
    pub written : output ≡ record_words words k ++ drop (6 * k) output₀

  -- few enough that their number fits
  pub records_few : Sound words → record_count words (nodes words) ≤ 2097149
  records_few sound = omega (arith, sound.few, sound.some, output_room words (nodes words) sound.shaped sound.some)

  module _ (sound : Sound words) (output₀ : List ℤ) (room : 6 * (2 * nodes words - 1) ≤ length output₀) where
    -- before the loop: the root is queued
    pub root_queued : {none ring : Ends} {lent lent' : List ℤ} → none.queued ≡ 0 → length lent ≡ nodes words + 1 → Puts none lent (0 ∷ []) ring lent' → Writing output₀ ring lent' output₀ 0
    unfolding queued record_words held tabulate
    root_queued is_none roomy put = record {
      ready = put.ready;
      roomy = put.as_long ∙ roomy;
      so_far = at_start_lem words (nodes words) sound.shaped sound.some;
      holds = put.appends ∙ rw is_none;
      written = refl;
    }

    module _ {ring : Ends} {lent output : List ℤ} {k : ℕ} (at : Writing output₀ ring lent output k) where
      count : ring.queued + k ≡ length (queued words k)
      count =
          let many : ring.queued ≡ length (queued words k) - k = sym (held_length ring lent) ∙ ap length at.holds ∙ length-drop k (queued words k) in
          omega (arith, many, at.so_far.reached)

      within : k ≤ record_count words (nodes words)
      within = omega (arith, at.so_far.reached, at_most_records words (nodes words) sound.shaped sound.some k at.so_far)

      long : length (record_words words k) ≡ 6 * k
      long = words_long words (nodes words) sound.shaped sound.some k within

      -- the output is as long as it was
      pub output_kept : length output ≡ length output₀
      output_kept =
          omega (arith, within, output_room words (nodes words) sound.shaped sound.some, long, ap length at.written, length-append (record_words words k) (drop (6 * k) output₀), length-drop (6 * k) output₀)

      -- after it
      pub all_written : (ring.queued ≡ 0) → k ≡ record_count words (nodes words)
      all_written none = none_queued words (nodes words) sound.shaped sound.some k at.so_far (omega (arith, count))

      -- with a place that was taken
      module _ {place : ℕ} {left : Ends} (took : Takes ring lent place left) where
        some : 0 < ring.queued
        some = omega (arith, took.one_less)

        queued_here : k < length (queued words k)
        queued_here = omega (arith, count, some)

        pub fewer : k < record_count words (nodes words)
        fewer = omega (arith, queued_here, at_most_records words (nodes words) sound.shaped sound.some k at.so_far)

        both : place ∷ held left lent ≡ place_of words k ∷ drop (suc k) (queued words k)
        both = sym took.removes ∙ at.holds ∙ first_queued words k queued_here

        is_place_lem : place ≡ place_of words k
        is_place_lem = same_head both

        is_first : k + left.queued + 1 ≡ first_of words k
        is_first = omega (arith, count, took.one_less)

        next : SoFar words (nodes words) (suc k)
        next = one_record_more words (nodes words) sound.shaped sound.some k queued_here at.so_far

        pub place_here : place < nodes words
        place_here = rw is_place_lem (place_inside words (nodes words) sound.shaped sound.some k at.so_far)

        record_fits : 6 * k + 6 ≤ length output₀
        record_fits = omega (arith, fewer, output_room words (nodes words) sound.shaped sound.some)

        pub record_room : 6 * k + 6 ≤ length output
        record_room = omega (arith, record_fits, output_kept)

        pub few_queued : k + left.queued < 2147483647
        few_queued =
            omega (arith, is_first, sound.few, output_room words (nodes words) sound.shaped sound.some, at_most_records words (nodes words) sound.shaped sound.some k at.so_far)

        pub queue_room : left.queued + length (grandchildren words (node_at words place)) ≤ length lent
        queue_room =
            let grand = grandchildren words (node_of_record words k) in
            let long : length (queued words (suc k)) ≡ length (queued words k) + length grand =
            ap length (next_queued words k) ∙ length-append (queued words k) grand
            in
            rw is_place_lem
            (omega (arith, long, is_first, ring_room words (nodes words) sound.shaped sound.some (suc k) next, at.roomy))

        -- one record more
        pub one_more : {ring' : Ends} {lent' output' : List ℤ} → Puts left lent (grandchildren words (node_at words place)) ring' lent'
            → output' ≡ sets output (6 * k) (record_for words (node_at words place) (k + left.queued + 1))
            → Writing output₀ ring' lent' output' (k + 1)
        one_more put stored =
            let new = record_for words (node_of_record words k) (first_of words k) in
            let six : length new ≡ 6 = record_long words (nodes words) sound.shaped sound.some k within in
            let fits : 6 * k + length new ≤ length output₀ = omega (arith, six, record_fits) in
            let on : 6 * k + length new ≡ 6 * suc k = omega (arith, six) in
            rw (add-one k)
            (record {
              ready = put.ready;
              roomy = put.as_long ∙ at.roomy;
              so_far = next;
              holds =
                  put.appends
                  ∙ ap₂ (λ (l : List ℕ) (p : ℕ). l ++ grandchildren words (node_at words p)) (same_rest both) is_place_lem
                  ∙ sym (then_queued words k queued_here);
              written =
                  stored
                  ∙ ap₂ (λ (p first : ℕ). sets output (6 * k) (record_for words (node_at words p) first)) is_place_lem is_first
                  ∙ ap (λ (l : List ℤ). sets l (6 * k) new) at.written
                  ∙ written_on (record_words words k) output₀ new (6 * k) long fits
                  ∙ ap₂ (λ (l : List ℤ) (i : ℕ). l ++ drop i output₀) (sym (next_words words k)) on;
            })
