-- `matuviso_walk_flat_pixels` meets its promise: a guess for each pixel.
use lib.IntN.{pos}
use lib.ListN.{length, get_or}
use mathlib.Core.Path.{◌≡◌, sym, ◌∙◌}
use mathlib.Core.Bool.{false}
use Prim.Native.Nat.{ℕ, ◌<◌}
use native.Mathlib.Omega.{arith}
use Rattle.bench_flat.proofs.Guesses.{guessed}
use Rattle.bench_flat.specs.Pixels.{flat_at, too_few}
use Rattle.bench_flat.proofs.matuviso_walk_flat_pixels.Goals as goal

pub returns : goal.returns
returns c =
    let s = c.args in
    let roomy : too_few (length s.cells.now) (length s.«data».now) (length s.guesses.now) ≡ false = sym c.too_few.ensures ∙ c.if-too_few.false in
    let each : (k : ℕ) → k < length c.guess_all.new.guesses → get_or c.guess_all.new.guesses k (pos 0) ≡ flat_at s.words.now s.cells.now s.«data».now s.wp_pred k = λ k inside.
    let one = c.guess_all.ensures k inside in grind (arith, one) in
    record {
      answers = simp roomy;
      holds = simp roomy (guessed _ s.guesses.now c.guess_all.new.guesses (omega arith) each);
    }
