-- Asks and puts from opening on, by the definitions that the calls promise: the state and the memory before pixel k.
use Rattle.std.specs.Prelude.{List, ℕ, zero, suc, ◌<◌, ◌^◌, ℤ}
use Rattle.std.specs.Int.Signed.{mag}
use Rattle.blend.specs.declared.WeightedHeader.{WeightedHeader}
use Rattle.predict.specs.declared.neighbours.PredictionData.{PredictionData}
use Rattle.weighted.specs.State.{opens, cleared, asks, after_ask, puts, next_state, after_put, at_start}
use Rattle.weighted.specs.declared.state.WeightedState.{WeightedState}

-- 32-bit neighbours
pub record Words (d : PredictionData) : Type 0 where
  pub left_fits : mag d.left < 2 ^ 31
  pub top_fits : mag d.top < 2 ^ 31
  pub toptop_fits : mag d.toptop < 2 ^ 31
  pub topleft_fits : mag d.topleft < 2 ^ 31
  pub topright_fits : mag d.topright < 2 ^ 31

-- where the calls have come to
pub record Before : Type 0 where
  pub state : WeightedState
  pub memory : List ℕ

-- one ask and one put
abbrev pub one_pixel : Before → PredictionData → ℤ → Before
one_pixel b d v =
    let asked = after_ask b.state (asks b.state b.memory d) in
    record { state = next_state asked (puts asked b.memory); memory = after_put asked b.memory v (puts asked b.memory) }

module _ (h : WeightedHeader) (width : ℕ) (memory : List ℕ) (neighbours : ℕ → PredictionData) (value : ℕ → ℤ) where
  unfoldable pub calls : ℕ → Before
  calls zero = record { state = at_start h width; memory = cleared memory (opens h width memory) }
  calls (suc k) = one_pixel (calls k) (neighbours k) (value k)
