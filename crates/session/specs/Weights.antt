-- The weighted state of a session with weights on or off: off, guess and property are 0, and no memory is looked at.
use Rattle.std.specs.Prelude.{Bool, List, ℕ, ℤ}
use Rattle.blend.specs.declared.Prediction.{Prediction}
use Rattle.blend.specs.declared.WeightedHeader.{WeightedHeader}
use Rattle.integer.specs.Order.{if}
use Rattle.predict.specs.declared.neighbours.PredictionData.{PredictionData}
use Rattle.refusal.specs.Paper.{Outcome, gives}
use Rattle.weighted.specs.State.{Answered, at_start, opens, cleared, answered, predicts, asks, moved, puts, after_put}
use Rattle.weighted.specs.declared.state.WeightedState.{WeightedState}
use Rattle.session.specs.Session.{silent}

abbrev pub starts : Bool → WeightedHeader → ℕ → List ℕ → Outcome WeightedState
starts weights h width m = if weights (opens h width m) (gives (at_start h width))

abbrev pub starts_on : Bool → WeightedHeader → ℕ → List ℕ → List ℕ
starts_on weights h width m = if weights (cleared m (opens h width m)) m

-- what is found for the pixel at the state's place
abbrev pub finds : Bool → WeightedState → List ℕ → PredictionData → Outcome Prediction
finds weights s m d = if weights (predicts s m d) (gives silent)

abbrev pub answers_of : Bool → WeightedState → List ℕ → PredictionData → Outcome Answered
answers_of weights s m d = if weights (asks s m d) (gives (answered s silent))

abbrev pub learns : Bool → WeightedState → List ℕ → Outcome WeightedState
learns weights s m = if weights (puts s m) (gives (moved s))

abbrev pub learns_on : Bool → WeightedState → List ℕ → ℤ → List ℕ
learns_on weights s m v = if weights (after_put s m v (puts s m)) m
