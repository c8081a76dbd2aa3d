-- What a reader of a sound list's records relies on: how many there are, where each stands, and which are its grandchildren.
use lib.IntN.{ℤ}
use lib.ListN.{length, take, drop, get_or, length-append, get_or-append}
use lib.Seq.{take_at, drop_at, get_or-append-add}
use mathlib.Core.List.{List, [], ◌++◌, append_assoc, append-nil}
use mathlib.Core.Path.{◌≡◌, refl, sym, ap, ◌∙◌}
use native.Mathlib.Decide.{dec_lt}
use native.Mathlib.Omega.{arith}
use Prim.Native.Nat.{ℕ, zero, suc, ◌+◌, ◌*◌, ◌≤◌, ◌<◌}
use Rattle.nodes.specs.declared.Node.{Node}
use Rattle.nodes.specs.declared.Node.TheVariants as node
use Rattle.nodes.specs.declared.Split.{Split}
use Rattle.refusal.specs.Paper.{gives}
use Rattle.validation.proofs.Sound.{node_there}
use Rattle.validation.specs.Shape.{shape_of}
use Rattle.flatten.specs.Queue.{grandchildren, queued, node_of_record, first_of, record_count}
use Rattle.flatten.specs.Records.{record_size, record_for, record_words}
use Rattle.flatten.proofs.Counts.{place_of, place_inside, next_queued, at_most_records, still_queued, so_far, four_more}

module _ (words : List ℤ) where
  six_each : (node : Node) (first : ℕ) → length (record_for words (gives node) first) ≡ record_size
  six_each (node.Leaf l) first = refl
  six_each (node.Split s) first = refl

  pub next_words : (k : ℕ) → record_words words (suc k) ≡ record_words words k ++ record_for words (node_of_record words k) (first_of words k)
  unfolding record_words
  next_words k = refl

  -- what is queued stays where it is
  queued_on : (j k : ℕ) → j ≤ k → (more : List ℕ) × (queued words k ≡ queued words j ++ more)
  queued_on j zero h = let is : j ≡ 0 = omega arith in ([], rw is (sym (append-nil (queued words 0))))
  queued_on j (suc k) h = by (dec_lt k j) (queued_on j k)
    where
      by : Dec (k < j) → (j ≤ k → (more : List ℕ) × (queued words k ≡ queued words j ++ more)) → (more : List ℕ) × (queued words (suc k) ≡ queued words j ++ more)
      by (yes last) before = let is : j ≡ suc k = omega arith in ([], rw is (sym (append-nil (queued words (suc k)))))
      by (no other) before =
          let (more, is) = before (omega arith) in
          let grand = grandchildren words (node_of_record words k) in
          (more ++ grand, next_queued words k ∙ ap (λ (q : List ℕ). q ++ grand) is ∙ append_assoc (queued words j) more grand)

  pub queued_stays : (j k i : ℕ) → j ≤ k → i < length (queued words j) → get_or (queued words k) i 0 ≡ get_or (queued words j) i 0
  queued_stays j k i h l =
      let (more, is) = queued_on j k h in
      ap (λ (q : List ℕ). get_or q i 0) is ∙ get_or-append (queued words j) more 0 i l

module _ (words : List ℤ) (n : ℕ) (sound : shape_of words n ≡ gives tt) (some : 0 < n) where
  -- so many records, and no place is queued that is not written
  pub records_are : length (queued words (record_count words n)) ≡ record_count words n
  records_are =
      let all = so_far words n sound some (record_count words n) (omega arith) in
      omega (arith, all.reached, at_most_records words n sound some (record_count words n) all)

  -- a split record's four grandchildren are records after it, so the Rust's closing test for `TreeTooLarge` never fires
  pub later : (k : ℕ) → k < record_count words n → k < first_of words k
  later k h = still_queued words n sound some k (so_far words n sound some k (omega arith)) h

  pub grandchildren_inside : (k : ℕ) {s : Split} → k < record_count words n → node_of_record words k ≡ gives (node.Split s) → first_of words k + 3 < record_count words n
  grandchildren_inside k h split =
      omega (
        arith,
        four_more words n sound some k (so_far words n sound some k (omega arith)) split,
        at_most_records words n sound some (suc k) (so_far words n sound some (suc k) h),
      )

  -- the node of a record is a node of the list
  pub record_there : (k : ℕ) → k ≤ record_count words n → (node : Node) × (node_of_record words k ≡ gives node)
  record_there k h = node_there words n sound some (place_of words k) (place_inside words n sound some k (so_far words n sound some k h))

  pub record_long : (k : ℕ) → k ≤ record_count words n → length (record_for words (node_of_record words k) (first_of words k)) ≡ record_size
  record_long k h = let there = record_there k h in rw there.1 (six_each words there.0 (first_of words k))

  pub words_long : (k : ℕ) → k ≤ record_count words n → length (record_words words k) ≡ record_size * k
  unfolding record_words
  words_long zero h = refl
  words_long (suc k) h =
      length-append (record_words words k) (record_for words (node_of_record words k) (first_of words k))
      ∙ omega (arith, words_long k (omega arith), record_long k (omega arith))

  -- record k stands in its own words, whatever is written after it
  pub record_at_lem : (m k : ℕ) → m ≤ record_count words n → k < m → (rest : List ℤ)
      → take record_size (drop (record_size * k) (record_words words m ++ rest)) ≡ record_for words (node_of_record words k) (first_of words k)
  record_at_lem zero k h l rest = absurd (omega arith)
  record_at_lem (suc m) k h l rest = by (dec_lt k m) (λ earlier more. record_at_lem m k (omega arith) earlier more)
    where
      new : List ℤ
      new = record_for words (node_of_record words m) (first_of words m)

      on : record_words words (suc m) ++ rest ≡ record_words words m ++ (new ++ rest)
      on = ap (λ (l : List ℤ). l ++ rest) (next_words words m) ∙ append_assoc (record_words words m) new rest

      by : Dec (k < m) → (k < m → (more : List ℤ) → take record_size (drop (record_size * k) (record_words words m ++ more)) ≡ record_for words (node_of_record words k) (first_of words k))
          → take record_size (drop (record_size * k) (record_words words (suc m) ++ rest)) ≡ record_for words (node_of_record words k) (first_of words k)
      by (yes earlier) before = ap (λ (l : List ℤ). take record_size (drop (record_size * k) l)) on ∙ before earlier (new ++ rest)
      by (no last) before =
          let is : k ≡ m = omega arith in
          rw (is, on, drop_at (record_words words m) (new ++ rest) (record_size * m) (words_long m (omega arith)))
          (take_at new rest record_size (record_long m (omega arith)))

  -- the grandchildren of record k are the records from its first on
  pub grandchild_at : (k i : ℕ) {s : Split} → k < record_count words n → node_of_record words k ≡ gives (node.Split s) → i < 4
      → place_of words (first_of words k + i) ≡ get_or (grandchildren words (node_of_record words k)) i 0
  grandchild_at k i h split l =
      let four = four_more words n sound some k (so_far words n sound some k (omega arith)) split in
      let after = later k h in
      queued_stays words (suc k) (first_of words k + i) (first_of words k + i) (omega arith) (omega (arith, four))
      ∙ ap (λ (q : List ℕ). get_or q (first_of words k + i) 0) (next_queued words k)
      ∙ get_or-append-add (queued words k) (grandchildren words (node_of_record words k)) i 0
