-- Over the records of an accepted list of nodes no ask and no put of a channel is refused, and the channel is that of the direct walk over
-- the nodes themselves.
use lib.IntN.{ℤ, pos}
use lib.ListN.{length}
use mathlib.Core.List.{List, []}
use mathlib.Core.Path.{◌≡◌, refl, sym, ap, ◌∙◌}
use native.Mathlib.Omega.{arith}
use Rattle.std.specs.Prelude.{Ok}
use Prim.Native.Nat.{ℕ, zero, suc, ◌+◌, ◌/◌, ◌%◌, ◌≤◌, ◌<◌}
use Rattle.agreement.proofs.Agree.{Agree, agree, counted_records}
use Rattle.agreement.proofs.Demand3 as demand
use Rattle.agreement.specs.Covers.{Covers, OffsetsFit}
use Rattle.cells.specs.Cells.{cells_needed}
use Rattle.flat.specs.FlatWalk.{flat_of}
use Rattle.flat.specs.Records.{counted}
use Rattle.flatten.specs.Queue.{record_count}
use Rattle.flatten.specs.Records.{record_words}
use Rattle.predict.specs.Neighbours.{fetched}
use Rattle.predict.specs.declared.neighbours.PredictionData.{PredictionData}
use Rattle.refusal.specs.Paper.{Outcome, gives, said}
use Rattle.session.specs.Session.{Opening, fresh, opens}
use Rattle.validation.proofs.ToDo.{nodes, Sound as Tree}
use Rattle.validation.specs.Validation.{validation}
use Rattle.walk.specs.Walk.{answer_of, walk_of, walk_by}
use Rattle.walk.specs.declared.PredictionResult.{PredictionResult}
use Rattle.channel.specs.Calls.{calls, Arguments, Sound}
use Rattle.channel.specs.Channel.{Told, Scan, seven, predicted, cells_of, after, pixel, scan}
use Rattle.channel.proofs.Follows.{Follows, opening, follows}
use Rattle.channel.proofs.Lengths.{filled_cells_length}
use Rattle.channel.proofs.Standing.{Said, stands_at, ask_said}

-- the same channel, walked over the nodes themselves
abbrev pub directly : Told → List ℤ → Told
directly t words =
    record {
      width = t.width;
      header = t.header;
      weights = t.weights;
      mask = t.mask;
      channel = t.channel;
      stream = t.stream;
      references = t.references;
      residual = t.residual;
      walk = walk_of words;
    }

-- only how many cells there are counts
covers_too : (words : List ℤ) (n : ℕ) (cells others : List ℤ) → Covers words n cells → length others ≡ length cells → Covers words n others
covers_too words n cells others covers same =
    record { sixteen = omega (arith, covers.sixteen); covered = λ inside split. rw same (covers.covered inside split) }

-- ---- what is said of such a channel

module _ (t : Told) (words records plane cells : List ℤ) (memory : List ℕ) where
  -- pixel k: the walk answers, the ask says its context, and the put is not refused
  pub record Answers (k : ℕ) : Type 0 where
    pub result : PredictionResult
    pub walks : t.walk (cells_of t (scan t plane cells memory k) k) (seven t (scan t plane cells memory k) k) (predicted t (scan t plane cells memory k) k).guess
        ≡ gives result
    pub says : Said t records (calls t records plane cells memory k) k result

  pub record Unpacks : Type 0 where
    pub opened : (opens t.width t.header t.weights t.mask t.channel t.stream cells memory).says
        ≡ gives (fresh t.header t.width t.weights t.mask)
    pub answers : (k : ℕ) → k < length plane → Answers k
    pub stands : (k : ℕ) → k ≤ length plane → (scan t plane cells memory k).stands ≡ gives tt
    pub follows : (k : ℕ) → k ≤ length plane → Follows t records plane cells memory k
    pub direct : (k : ℕ) → k ≤ length plane → scan t plane cells memory k ≡ scan (directly t words) plane cells memory k

module _
    (words work : List ℤ) (accepted : said {A = Unit} (Ok tt) ≡ validation words (length work)) (some : 0 < length words) (offsets : OffsetsFit words (nodes words))
    (t : Told) (records plane cells : List ℤ) (memory : List ℕ) (rows : ℕ) (arguments : Arguments t records plane cells memory rows)
    (records_are : records ≡ record_words words (record_count words (nodes words))) (covers : Covers words (nodes words) cells)
  where
    -- ---- the arguments are sound

    tree : Tree words
    tree = demand.sound words work accepted some

    pub sound : Sound t records plane cells memory rows
    sound =
        let whole = counted_records words (nodes words) tree.shaped tree.some cells covers (fetched [] [] [] 0) (pos 0) tree.few offsets in
        record { arguments = arguments; count = record_count words (nodes words); counts = ap counted records_are ∙ whole; some = omega arith }

    -- ---- pixel k: both walks answer, and differ in hops only

    module _ (k : ℕ) (s : Scan) (roomy : length s.cells ≡ length cells) where
      abbrev full : List ℤ
      full = cells_of t s k

      abbrev d : PredictionData
      d = seven t s k

      abbrev wp : ℤ
      wp = (predicted t s k).guess

      full_covers : Covers words (nodes words) full
      full_covers =
          let fits : cells_needed t.mask (length (t.references k)) ≤ length s.cells = omega (arith, arguments.fits k) in
          covers_too words (nodes words) cells full covers
          (filled_cells_length t.mask (k % t.width) (k / t.width) d (predicted t s k).property (t.references k) s.cells fits ∙ roomy)

      walks : Agree words (nodes words) tree.shaped tree.some full full_covers d wp tree.few offsets
      walks = agree words (nodes words) tree.shaped tree.some full full_covers d wp tree.few offsets

      flatly : t.walk full d wp ≡ gives (answer_of walks.end.leaf d wp ((walks.end.depth + 1) / 2))
      flatly =
          ap (λ (walk : List ℤ → PredictionData → ℤ → Outcome PredictionResult). walk full d wp) arguments.walks
          ∙ ap (λ (list : List ℤ). flat_of list full d wp) records_are
          ∙ walks.flatly

      direct : walk_of words full d wp ≡ gives (answer_of walks.end.leaf d wp walks.end.depth)
      direct = ap (λ (o : Outcome ℕ). walk_by o words full d wp) (demand.counted_nodes words work accepted some) ∙ walks.direct

      stands_on : (pixel t s k (gives tt)).stands ≡ gives tt
      stands_on = ap (λ (o : Outcome PredictionResult). (after t s k o).stands) flatly

      same_pixel : pixel t s k (gives tt) ≡ pixel (directly t words) s k (gives tt)
      same_pixel = ap (after t s k) flatly ∙ sym (ap (after (directly t words) s k) direct)

    -- ---- all pixels

    roomy_at : (k : ℕ) → k ≤ length plane → (scan t plane cells memory k).stands ≡ gives tt → length (scan t plane cells memory k).cells ≡ length cells
    roomy_at k early stands = (stands_at t records plane cells memory rows sound k early stands).kept.roomy

    pub never_refused : (k : ℕ) → k ≤ length plane → (scan t plane cells memory k).stands ≡ gives tt
    unfolding scan
    never_refused zero early = refl
    never_refused (suc k) early =
        let stands = never_refused k (omega arith) in
        ap (λ (o : Outcome Unit). (pixel t (scan t plane cells memory k) k o).stands) stands
        ∙ stands_on k (scan t plane cells memory k) (roomy_at k (omega arith) stands)

    pub as_direct : (k : ℕ) → k ≤ length plane → scan t plane cells memory k ≡ scan (directly t words) plane cells memory k
    unfolding scan
    as_direct zero early = refl
    as_direct (suc k) early =
        let stands = never_refused k (omega arith) in
        let s = scan t plane cells memory k in
        ap (λ (o : Outcome Unit). pixel t s k o) stands
        ∙ same_pixel k s (roomy_at k (omega arith) stands)
        ∙ ap (λ (o : Outcome Unit). pixel (directly t words) s k o) (sym stands)
        ∙ ap (λ (z : Scan). pixel (directly t words) z k z.stands) (as_direct k (omega arith))

    pub channel_unpacks : Unpacks t words records plane cells memory
    channel_unpacks =
        record {
          opened = ap (λ (o : Opening). o.says) (opening t records plane cells memory rows sound);
          answers = λ k inside.
              let s = scan t plane cells memory k in
              let stands = never_refused k (omega arith) in
              let walked = flatly k s (roomy_at k (omega arith) stands) in
              record { result = _; walks = walked; says = ask_said t records plane cells memory rows sound k inside _ stands walked };
          stands = never_refused;
          follows = follows t records plane cells memory rows sound;
          direct = as_direct;
        }
