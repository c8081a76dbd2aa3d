-- The flat walk over what flattening writes: where it stands after h records, the direct walk comes by after 2h steps, or one less at a
-- leaf. So it is not refused, and ends at the same leaf.
use borrow.Author.Tests.{lt-ltb, le-leb}
use lib.Dec.{ltb}
use lib.IntN.{ℤ}
use lib.ListN.{length, get_or, take, drop, take-append-drop}
use lib.Signed.{lt_z}
use mathlib.Core.Bool.{Bool, true, false}
use mathlib.Core.List.{List, [], ◌++◌, append-nil}
use mathlib.Core.Logic.{inl, inr}
use mathlib.Core.Path.{◌≡◌, refl, sym, ap, subst, ◌∙◌}
use native.Mathlib.Omega.{arith}
use Prim.Native.Nat.{ℕ, zero, suc, ◌+◌, ◌*◌, ◌/◌, ◌≤◌, ◌<◌}
use Rattle.integer.specs.Order.{if}
use Rattle.nodes.proofs.Read.{property_small, patterns_fit}
use Rattle.nodes.specs.Nodes.{node_at, word}
use Rattle.nodes.specs.declared.Leaf.{Leaf}
use Rattle.nodes.specs.declared.Node.{Node}
use Rattle.nodes.specs.declared.Node.TheVariants as node
use Rattle.nodes.specs.declared.Split.{Split}
use Rattle.predict.specs.declared.neighbours.PredictionData.{PredictionData}
use Rattle.refusal.specs.Paper.{Outcome, gives, refuses}
use Rattle.validation.proofs.Sound.{node_there, inside}
use Rattle.validation.specs.Reach.{SplitAt, LeafAt, LiesAt, Walks, step}
use Rattle.validation.specs.Shape.{shape_of}
use Rattle.walk.specs.Walk.{answer_of, chosen, walk_from}
use Rattle.walk.specs.declared.PredictionResult.{PredictionResult}
use Rattle.flat.specs.FlatWalk as flatly
use Rattle.flat.specs.Records.{record_at, record_of}
use Rattle.flat.specs.declared.records.FlatLeaf.{FlatLeaf}
use Rattle.flat.specs.declared.records.FlatSplit.{FlatSplit}
use Rattle.flat.specs.declared.records.Record.TheVariants as flat
use Rattle.flatten.proofs.Counts.{place_of, place_inside, so_far, output_room}
use Rattle.flatten.proofs.Flat.{later, grandchildren_inside, record_at_lem, grandchild_at}
use Rattle.flatten.specs.Queue.{queued_for, grandchildren, first_of, node_of_record, record_count}
use Rattle.flatten.specs.Records.{record_for, record_words, property_of, value_of}
use Rattle.agreement.specs.Covers.{Covers, EndsAt, OffsetsFit}
use Rattle.agreement.proofs.Direct.{steps_on, lies_on, inside_on}
use Rattle.agreement.proofs.Half.{Half, halved}
use Rattle.agreement.proofs.Written.{leaf_back, split_back}

-- ---- which of the four grandchildren

-- where the walk goes from a child: from a leaf nowhere
abbrev pick : Node → ℕ → Bool → ℕ
pick (node.Leaf l) place over = place
pick (node.Split s) place over = if over s.left s.right

abbrev fourth : Bool → Bool → ℕ
fourth over child_over = if over (if child_over 0 1) (if child_over 2 3)

at_four : (ml mr : Node) (l r : ℕ) (a b : Bool) → get_or (queued_for (gives ml) l ++ queued_for (gives mr) r) (fourth a b) 0 ≡ pick (if a ml mr) (if a l r) b
at_four (node.Leaf x) mr l r true true = refl
at_four (node.Leaf x) mr l r true false = refl
at_four (node.Split x) mr l r true true = refl
at_four (node.Split x) mr l r true false = refl
at_four (node.Leaf x) (node.Leaf y) l r false true = refl
at_four (node.Leaf x) (node.Leaf y) l r false false = refl
at_four (node.Leaf x) (node.Split y) l r false true = refl
at_four (node.Leaf x) (node.Split y) l r false false = refl
at_four (node.Split x) (node.Leaf y) l r false true = refl
at_four (node.Split x) (node.Leaf y) l r false false = refl
at_four (node.Split x) (node.Split y) l r false true = refl
at_four (node.Split x) (node.Split y) l r false false = refl

fourth_small : (a b : Bool) → fourth a b < 4
fourth_small true true = omega arith
fourth_small true false = omega arith
fourth_small false true = omega arith
fourth_small false false = omega arith

three_or_less : (a b c : Bool) → if a (if b 0 1) (if c 2 3) < 4
three_or_less true true c = omega arith
three_or_less true false c = omega arith
three_or_less false b true = omega arith
three_or_less false b false = omega arith

-- the child's test, by the child that the split leads to
abbrev test_of : List ℤ → Outcome Node → Bool
test_of cells o = flatly.is_over cells (property_of o) (value_of o)

fourth_is : (cells : List ℤ) (a : Bool) (l r : Outcome Node) → fourth a (if a (test_of cells l) (test_of cells r)) ≡ if a (if (test_of cells l) 0 1) (if (test_of cells r) 2 3)
fourth_is cells true l r = refl
fourth_is cells false l r = refl

-- ---- the largest of the properties has a cell

most_below : (a b m : ℕ) → a < m → b < m → (t : Bool) → if t b a < m
most_below a b m h l true = l
most_below a b m h l false = h

three_below : (a b c m : ℕ) → a < m → b < m → c < m → flatly.most a (flatly.most b c) + 1 ≤ m
three_below a b c m h k l =
    let two : flatly.most b c < m = most_below b c m k l (ltb b c) in
    let all : flatly.most a (flatly.most b c) < m = most_below a (flatly.most b c) m h two (ltb a (flatly.most b c)) in
    omega (arith, all)

property_below : (o : Outcome Node) (m : ℕ) → 0 < m → ((s : Split) → o ≡ gives (node.Split s) → s.property < m) → property_of o < m
property_below (gives (node.Split s)) m h small = small s refl
property_below (gives (node.Leaf l)) m h small = h
property_below (refuses number details) m h small = h

module _ (words : List ℤ) (n : ℕ) (sound : shape_of words n ≡ gives tt) (some : 0 < n) (cells : List ℤ) (covers : Covers words n cells) (d : PredictionData) (wp : ℤ) where
  -- ---- the direct walk at a node

  at_leaf : (fuel place depth : ℕ) {l : Leaf} → n ≤ fuel + place → place < n → LeafAt words place l → walk_from words cells n d wp fuel place depth ≡ gives (answer_of l d wp depth)
  unfolding walk_from
  at_leaf zero place depth enough h is = absurd (omega arith)
  at_leaf (suc fuel) place depth enough h is = rw is

  record OneOn (fuel place depth : ℕ) (s : Split) : Type 0 where
    less : ℕ
    enough : n ≤ less + chosen cells s
    goes : walk_from words cells n d wp fuel place depth ≡ walk_from words cells n d wp less (chosen cells s) (suc depth)

  at_split : (fuel place depth : ℕ) {s : Split} → n ≤ fuel + place → place < n → SplitAt words place s → OneOn fuel place depth s
  unfolding walk_from
  at_split zero place depth enough h is = absurd (omega arith)
  at_split (suc fuel) place depth {s} enough h is =
      let on = inside_on words n sound some cells covers d wp h is (lt_z s.value (word cells s.property)) in
      record { less = fuel; enough = omega (arith, on); goes = rw (is, steps_on words n sound some cells covers d wp h is) }

  -- ---- the records

  module _ (few : n ≤ 1048575) (offsets : OffsetsFit words n) where
    abbrev count : ℕ
    count = record_count words n

    -- the node of a record is one of the list's
    here : (k : ℕ) → k < count → place_of words k < n
    here k h = place_inside words n sound some k (so_far words n sound some k (omega arith))

    abbrev records : List ℤ
    records = record_words words count

    -- the words from record k on
    own_words : (k : ℕ) {m : Node} → k < count → node_of_record words k ≡ gives m → drop (6 * k) records ≡ record_for words (gives m) (first_of words k) ++ drop 6 (drop (6 * k) records)
    own_words k h is =
        sym (take-append-drop 6 (drop (6 * k) records))
        ∙ ap (λ (own : List ℤ). own ++ drop 6 (drop (6 * k) records))
        (ap (λ (l : List ℤ). take 6 (drop (6 * k) l)) (sym (append-nil records))
        ∙ record_at_lem words n sound some count k (omega arith) h []
        ∙ ap (λ (o : Outcome Node). record_for words o (first_of words k)) is)

    abbrev leaf_record : Leaf → FlatLeaf
    leaf_record l = record { predictor = l.predictor; multiplier = l.multiplier; context = l.id; offset = l.offset }

    leaf_there : (k : ℕ) {l : Leaf} → k < count → LeafAt words (place_of words k) l → record_at records k ≡ gives (flat.Leaf (leaf_record l))
    leaf_there k {l} h is =
        let are = patterns_fit _ _ is in
        ap (λ (w : List ℤ). record_of w k) (own_words k h is) ∙ leaf_back l _ k are.0 are.1 (offsets.fit (here k h) is)

    abbrev split_record : ℕ → Split → FlatSplit
    split_record k s =
        record {
          property = s.property;
          value = s.value;
          left_value = value_of (node_at words s.left);
          right_value = value_of (node_at words s.right);
          first = first_of words k;
          left_property = property_of (node_at words s.left);
          right_property = property_of (node_at words s.right);
        }

    split_there : (k : ℕ) {s : Split} → k < count → SplitAt words (place_of words k) s → record_at records k ≡ gives (flat.Split (split_record k s))
    split_there k {s} h is =
        ap (λ (w : List ℤ). record_of w k) (own_words k h is)
        ∙ split_back s.property s.value (value_of (node_at words s.left)) (value_of (node_at words s.right)) (first_of words k) (property_of (node_at words s.left)) (property_of (node_at words s.right)) _ k
        (property_small _ _ is)
        (omega (arith, few, output_room words n sound some, grandchildren_inside words n sound some k h is))
        (property_below (node_at words s.left) 256 (omega arith) (λ t e. property_small _ _ e))
        (property_below (node_at words s.right) 256 (omega arith) (λ t e. property_small _ _ e))

    steps : (k : ℕ) {s : Split} → k < count → SplitAt words (place_of words k) s
        → flatly.step_of cells count (split_record k s) k ≡ gives (first_of words k + flatly.grandchild cells (split_record k s))
    unfolding flatly.step_of
    steps k {s} h is =
        let inside_here = here k h in
        let at = inside words n sound some (place_of words k) inside_here is in
        let cell : 0 < length cells = omega (arith, covers.sixteen) in
        let one = covers.covered inside_here is in
        let two = property_below (node_at words s.left) (length cells) cell (λ t e. covers.covered at.1 e) in
        let three = property_below (node_at words s.right) (length cells) cell (λ t e. covers.covered at.2 e) in
        let enough = three_below s.property (property_of (node_at words s.left)) (property_of (node_at words s.right)) (length cells) one two three in
        rw (lt-ltb k (first_of words k) (later words n sound some k h), lt-ltb (first_of words k + 3) count (grandchildren_inside words n sound some k h is), le-leb (flatly.cells_needed (split_record k s)) (length cells) enough)

    -- ---- where the flat walk stands

    one_node : (place : ℕ) {s : Split} {l : Leaf} → SplitAt words place s → LeafAt words place l → ⊥
    one_node place split leaf = let z : ◌≡◌ {A = ℕ} 0 1 = cc in omega arith

    even : (place depth hops : ℕ) {s : Split} → SplitAt words place s → Half words place depth hops → depth ≡ 2 * hops
    even place depth hops split (inl e) = e
    even place depth hops split (inr w) = absurd (one_node place split w.1.1)

    four_of : (k : ℕ) {s : Split} {ml mr : Node} → SplitAt words (place_of words k) s → node_at words s.left ≡ gives ml → node_at words s.right ≡ gives mr
        → grandchildren words (node_at words (place_of words k)) ≡ queued_for (gives ml) s.left ++ queued_for (gives mr) s.right
    four_of k {s} {ml} is il ir =
        ap (λ (o : Outcome Node). grandchildren words o) is
        ∙ ap (λ (o : Outcome Node). queued_for o s.left ++ queued_for (node_at words s.right) s.right) il
        ∙ ap (λ (o : Outcome Node). queued_for (gives ml) s.left ++ queued_for o s.right) ir

    -- the direct walk, whose answer is `answer`, comes by
    module _ (answer : Outcome PredictionResult) where
      pub record Stands (place hops : ℕ) : Type 0 where
        pub depth : ℕ
        pub lies : LiesAt words depth place
        pub walks : Walks words (word cells) depth place
        pub fuel : ℕ
        pub enough : n ≤ fuel + place
        pub same : walk_from words cells n d wp fuel place depth ≡ answer
        pub half : Half words place depth hops

      -- from a child, which lies at an odd depth, on to where the split's record leads
      from_child : (child hops : ℕ) (m : Node) → node_at words child ≡ gives m → child < n
          → (depth : ℕ) → depth ≡ 2 * hops + 1 → LiesAt words depth child → Walks words (word cells) depth child
          → (fuel : ℕ) → n ≤ fuel + child → walk_from words cells n d wp fuel child depth ≡ answer
          → Stands (pick m child (test_of cells (gives m))) (suc hops)
      from_child child hops (node.Leaf l) is h depth odd lies walks fuel enough same =
          record { depth = depth; lies = lies; walks = walks; fuel = fuel; enough = enough; same = same; half = inr (omega arith, (l, is)) }
      from_child child hops (node.Split s) is h depth odd lies walks fuel enough same =
          let one = at_split fuel child depth enough h is in
          record {
            depth = suc depth;
            lies = lies_on words n sound some cells covers d wp lies is (lt_z s.value (word cells s.property));
            walks = step walks is;
            fuel = one.less;
            enough = one.enough;
            same = sym one.goes ∙ same;
            half = inl (omega arith);
          }

      side : (hops : ℕ) (t : Bool) (l r : ℕ) (ml mr : Node) → node_at words l ≡ gives ml → node_at words r ≡ gives mr → if t l r < n
          → (depth : ℕ) → depth ≡ 2 * hops + 1 → LiesAt words depth (if t l r) → Walks words (word cells) depth (if t l r)
          → (fuel : ℕ) → n ≤ fuel + if t l r → walk_from words cells n d wp fuel (if t l r) depth ≡ answer
          → Stands (pick (if t ml mr) (if t l r) (if t (test_of cells (node_at words l)) (test_of cells (node_at words r)))) (suc hops)
      side hops true l r ml mr il ir h depth odd lies walks fuel enough same =
          subst (λ (o : Outcome Node). Stands (pick ml l (test_of cells o)) (suc hops)) (sym il) (from_child l hops ml il h depth odd lies walks fuel enough same)
      side hops false l r ml mr il ir h depth odd lies walks fuel enough same =
          subst (λ (o : Outcome Node). Stands (pick mr r (test_of cells o)) (suc hops)) (sym ir) (from_child r hops mr ir h depth odd lies walks fuel enough same)

      -- one record on
      one_record : (k hops : ℕ) {s : Split} → k < count → SplitAt words (place_of words k) s → Stands (place_of words k) hops
          → Stands (place_of words (first_of words k + flatly.grandchild cells (split_record k s))) (suc hops)
      one_record k hops {s} h is at =
          let inside_here = here k h in
          let sides = inside words n sound some (place_of words k) inside_here is in
          let t : Bool = lt_z s.value (word cells s.property) in
          let on = inside_on words n sound some cells covers d wp inside_here is t in
          let one = at_split at.fuel (place_of words k) at.depth at.enough inside_here is in
          let ml = node_there words n sound some s.left sides.1 in
          let mr = node_there words n sound some s.right sides.2 in
          let b : Bool = if t (test_of cells (node_at words s.left)) (test_of cells (node_at words s.right)) in
          let four : grandchildren words (node_at words (place_of words k)) ≡ queued_for (gives ml.0) s.left ++ queued_for (gives mr.0) s.right = four_of k is ml.1 mr.1 in
          let place : place_of words (first_of words k + flatly.grandchild cells (split_record k s)) ≡ pick (if t ml.0 mr.0) (if t s.left s.right) b =
          (ap (λ (j : ℕ). place_of words (first_of words k + j)) (sym (fourth_is cells t (node_at words s.left) (node_at words s.right)))
          ∙ grandchild_at words n sound some k (fourth t b) h is (fourth_small t b)
          ∙ ap (λ (q : List ℕ). get_or q (fourth t b) 0) four
          ∙ at_four ml.0 mr.0 s.left s.right t b)
          in
          subst (λ (p : ℕ). Stands p (suc hops)) (sym place)
          (side hops t s.left s.right ml.0 mr.0 ml.1 mr.1 on.1 (suc at.depth)
          (omega (arith, even (place_of words k) at.depth hops is at.half))
          (lies_on words n sound some cells covers d wp at.lies is t)
          (step at.walks is)
          one.less
          one.enough
          (sym one.goes ∙ at.same))

      -- so both end alike
      pub record Alike (fuel k hops : ℕ) : Type 0 where
        pub end : EndsAt words n cells
        pub direct : answer ≡ gives (answer_of end.leaf d wp end.depth)
        pub flatly : flatly.flat_from records cells count d wp fuel k hops ≡ gives (answer_of end.leaf d wp ((end.depth + 1) / 2))

      pub ends_alike : (fuel k hops : ℕ) → count ≤ fuel + k → k < count → Stands (place_of words k) hops → Alike fuel k hops
      unfolding flatly.flat_from
      ends_alike zero k hops enough h at = absurd (omega arith)
      ends_alike (suc fuel) k hops enough h at =
          by_node (node_there words n sound some (place_of words k) (here k h)).0 (node_there words n sound some (place_of words k) (here k h)).1 (ends_alike fuel)
        where
          by_node : (m : Node) → node_at words (place_of words k) ≡ gives m
              → ((k hops : ℕ) → count ≤ fuel + k → k < count → Stands (place_of words k) hops → Alike fuel k hops) → Alike (suc fuel) k hops
          by_node (node.Leaf l) is onward =
              let inside_here = here k h in
              let it : flatly.flat_from records cells count d wp (suc fuel) k hops ≡ gives (answer_of l d wp hops) = rw (leaf_there k h is) in
              record {
                end = record { place = place_of words k; leaf = l; depth = at.depth; inside = inside_here; is_leaf = is; lies = at.lies; walks = at.walks };
                direct = sym at.same ∙ at_leaf at.fuel (place_of words k) at.depth at.enough inside_here is;
                flatly = it ∙ ap (λ (j : ℕ). gives (answer_of l d wp j)) (halved words (place_of words k) at.depth hops at.half);
              }
          by_node (node.Split s) is onward =
              let j = flatly.grandchild cells (split_record k s) in
              let small : j < 4 = three_or_less (flatly.is_over cells s.property s.value) (test_of cells (node_at words s.left)) (test_of cells (node_at words s.right)) in
              let after = later words n sound some k h in
              let room = grandchildren_inside words n sound some k h is in
              let rest = onward (first_of words k + j) (suc hops) (omega (arith, after)) (omega (arith, room, small)) (one_record k hops h is at) in
              record { end = rest.end; direct = rest.direct; flatly = rw (split_there k h is, steps k h is) rest.flatly }
