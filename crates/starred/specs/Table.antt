-- The cases that document 01 marks with a star: what the library's definitions say, and what the paper says. A later module
-- adds its rows, and names what its definitions unfold on the `unfolding` line; the theorem's proof stays as it is.
use Rattle.std.specs.Prelude.{List, [], ◌∷◌, map, ◌≡◌, refl, ℕ, ltb, ℤ, pos, negsuc, length, drop}
use Rattle.refusal.specs.Paper.{Outcome, gives, refuses}
use Rattle.arith.specs.Weights.{error_weight, floor_log2, halvings}
use Rattle.blend.specs.Blend.{defaults, weights_for, normalised, in_range, found, average, possible, errors_of}
use Rattle.arith.specs.declared.Four.{Four}
use Rattle.colour.specs.Restore.{operate}
use Rattle.colour.specs.declared.restore.Triple.{Triple}
use Rattle.flatten.specs.Flatten.{flattening}
use Rattle.flatten.specs.Offsets.{first_wide}
use Rattle.flatten.specs.Queue.{queued, even_splits}
use Rattle.flatten.specs.Records.{record_words}
use Rattle.history.specs.Calls.{calls}
use Rattle.integer.specs.Fill.{tabulate}
use Rattle.integer.specs.Order.{if}
use Rattle.nodes.specs.Nodes.{node_of}
use Rattle.predict.specs.Predictors.{guess}
use Rattle.predict.specs.declared.neighbours.PredictionData.{PredictionData}
use Rattle.predict.specs.declared.predictors.Predictor.{Predictor}
use Rattle.predict.specs.declared.predictors.Predictor.TheVariants.{Select, AverageWestAndNorth, Gradient}
use Rattle.validation.specs.Shape.{splits_before, first_fault}
use Rattle.weighted.specs.Memory.{errors_read, sums_read, error_at, stored, added}
use Rattle.weighted.specs.State.{Answered, asks, allowed}

pub data Case : Type 0 where
  says : List ℤ → List ℤ → Case

-- an outcome as numbers: 0 and the answer, or a refusal's number and its details
abbrev numbers : Outcome ℕ → List ℤ
numbers (gives n) = pos 0 ∷ pos n ∷ []
numbers (refuses number details) = pos number ∷ details

-- the guess of a predictor that looks at left, top and topleft alone
abbrev corner : Predictor → ℤ → ℤ → ℤ → List ℤ
corner p left top topleft =
    guess p
    record { left = left; top = top; toptop = pos 0; topleft = topleft; topright = pos 0; leftleft = pos 0; toprightright = pos 0 }
    (pos 0)
    ∷ []

-- a triple after an operation
abbrev words : Triple → List ℤ
words t = t.a ∷ t.b ∷ t.c ∷ []

abbrev colours : ℕ → ℤ → ℤ → ℤ → List ℤ
colours operation a b c = words (operate operation record { a = a; b = b; c = c })

-- the four weights for the default header once shifted, where no error has been seen
abbrev weights : Four → List ℤ
weights w = pos w.e0 ∷ pos w.e1 ∷ pos w.e2 ∷ pos w.e3 ∷ []

abbrev no_sums : Four
no_sums = record { e0 = 0; e1 = 0; e2 = 0; e3 = 0 }

-- seven neighbours of one value
abbrev all : ℤ → PredictionData
all v = record { left = v; top = v; toptop = v; topleft = v; topright = v; leftleft = v; toprightright = v }

-- guess and property of the ask at pixel k, the default header, width 4: the neighbours are all 0, and 10 from the second pixel on; 10 is put
abbrev answer : Outcome Answered → List ℤ
answer (gives a) = a.guess ∷ a.property ∷ []
answer (refuses number details) = pos number ∷ details

abbrev asked : ℕ → List ℤ
asked k =
    let neighbours : ℕ → PredictionData = λ j. if (ltb 0 j) (all (pos 10)) (all (pos 0)) in
    let before = calls defaults 4 (tabulate (λ i. 0) 60) neighbours (λ j. pos 10) k in
    answer (asks before.state before.memory (neighbours k))

-- three nodes, property 9, value 0, the leaves with predictors 5 and 13
abbrev three : List ℤ
three =
    pos 9 ∷ pos 0 ∷ pos 1 ∷ pos 2 ∷ pos 0 ∷ negsuc 0 ∷ pos 5 ∷ pos 0 ∷ pos 1 ∷ pos 7 ∷ negsuc 0 ∷ pos 13 ∷ pos 0 ∷ pos 1 ∷ pos 8 ∷ []

unfoldable pub table : List Case
unfolding floor_log2 halvings normalised in_range tabulate calls allowed found average errors_read sums_read error_at possible errors_of stored added node_of splits_before first_fault first_wide even_splits queued record_words
table =
    -- Select(left 3, top 7, topleft 5) = 7: a tie gives top
    says (corner Select (pos 3) (pos 7) (pos 5)) (pos 7 ∷ [])
    -- the North/West average of -3 and 0 is -1: toward zero
    ∷ says (corner AverageWestAndNorth (pos 0) (negsuc 2) (pos 0)) (negsuc 0 ∷ [])
    -- Gradient of left 10, top 20: topleft 5 gives 20, 14 gives 16, 25 gives 10
    ∷ says (corner Gradient (pos 10) (pos 20) (pos 5)) (pos 20 ∷ [])
    ∷ says (corner Gradient (pos 10) (pos 20) (pos 14)) (pos 16 ∷ [])
    ∷ says (corner Gradient (pos 10) (pos 20) (pos 25)) (pos 10 ∷ [])
    -- error_weight with m = 13
    ∷ says (numbers (error_weight 0 13)) (pos 0 ∷ pos 218103812 ∷ [])
    ∷ says (numbers (error_weight 30 13)) (pos 0 ∷ pos 7035604 ∷ [])
    ∷ says (numbers (error_weight 31 13)) (pos 0 ∷ pos 6815748 ∷ [])
    ∷ says (numbers (error_weight 63 13)) (pos 0 ∷ pos 3407876 ∷ [])
    ∷ says (numbers (error_weight 4294967295 13)) (pos 0 ∷ pos 4 ∷ [])
    -- default header, first pixel, all zero: shifted weights 6, 6, 6, 6; guess 0, property 0
    ∷ says (weights (normalised (weights_for defaults no_sums))) (pos 6 ∷ pos 6 ∷ pos 6 ∷ pos 6 ∷ [])
    ∷ says (asked 0) (pos 0 ∷ pos 0 ∷ [])
    -- width 4, put 10: next guess 10, property -80
    ∷ says (asked 1) (pos 10 ∷ negsuc 79 ∷ [])
    -- operation 6 on (100, 7, -3), 4 on (5, 0, -8), 5 on the same
    ∷ says (colours 6 (pos 100) (pos 7) (negsuc 2)) (pos 106 ∷ pos 99 ∷ pos 99 ∷ [])
    ∷ says (colours 4 (pos 5) (pos 0) (negsuc 7)) (pos 5 ∷ negsuc 1 ∷ negsuc 7 ∷ [])
    ∷ says (colours 5 (pos 5) (pos 0) (negsuc 7)) (pos 5 ∷ pos 1 ∷ negsuc 2 ∷ [])
    -- three nodes, property 9, value 0: first record 9, 0, 0, 0, 1, 0, then left twice, right twice
    ∷ says (record_words three 5)
    (pos 9 ∷ pos 0 ∷ pos 0 ∷ pos 0 ∷ pos 1 ∷ pos 0
    ∷ negsuc 0 ∷ pos 5 ∷ pos 1 ∷ pos 0 ∷ pos 7 ∷ pos 0 ∷ negsuc 0 ∷ pos 5 ∷ pos 1 ∷ pos 0 ∷ pos 7 ∷ pos 0
    ∷ negsuc 0 ∷ pos 13 ∷ pos 1 ∷ pos 0 ∷ pos 8 ∷ pos 0 ∷ negsuc 0 ∷ pos 13 ∷ pos 1 ∷ pos 0 ∷ pos 8 ∷ pos 0 ∷ [])
    -- the ring of 4 is full once the first record is written, and is enough
    ∷ says (pos (length (drop 1 (queued three 1))) ∷ []) (pos 4 ∷ [])
    ∷ says (numbers (flattening three 4 30)) (pos 0 ∷ pos 5 ∷ [])
    ∷ []

abbrev defined : Case → List ℤ
defined (says ours theirs) = ours

abbrev paper : Case → List ℤ
paper (says ours theirs) = theirs

-- The starred cases hold, all of them.
pub starred : map defined table ≡ map paper table
unfolding table
starred = refl
