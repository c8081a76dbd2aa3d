-- Neighbours and predictors as ISO/IEC 18181-1's modular annex defines them, in its names. Nothing here knows of rows lent,
-- widths refused or machine words. What each definition rests on is said in docs/DIFFERENCES.md: the standard's text is not at hand.
use Rattle.std.specs.Prelude.{◌&&◌, List, [], ◌∷◌, ◌≡◌, ℕ, ◌+◌, ◌-◌, ◌≤◌, ◌<◌, ltb, ℤ, pos, ◌+ℤ◌, ◌-ℤ◌, ◌*ℤ◌, length, get_or}
use Rattle.std.specs.Int.Signed.{lt_z, quot_z}
use Rattle.integer.specs.Order.{if, smaller, larger, magnitude}

-- A channel of some width: v x y is the sample in column x of row y. The neighbours of the sample at x, y.
module _ (v : ℕ → ℕ → ℤ) (width x y : ℕ) where
  abbrev pub W : ℤ
  W = if (ltb 0 x) (v (x - 1) y) (if (ltb 0 y) (v x (y - 1)) (pos 0))

  abbrev pub N : ℤ
  N = if (ltb 0 y) (v x (y - 1)) W

  abbrev pub NW : ℤ
  NW = if (ltb 0 x && ltb 0 y) (v (x - 1) (y - 1)) W

  abbrev pub NE : ℤ
  NE = if (ltb (x + 1) width && ltb 0 y) (v (x + 1) (y - 1)) N

  abbrev pub NN : ℤ
  NN = if (ltb 1 y) (v x (y - 2)) N

  abbrev pub WW : ℤ
  WW = if (ltb 1 x) (v (x - 2) y) W

  abbrev pub NEE : ℤ
  NEE = if (ltb (x + 2) width && ltb 0 y) (v (x + 2) (y - 1)) NE

-- Three rows show the channel at x, y: the row as far as it is known, before x, and the rows above whole.
pub record Shows (v : ℕ → ℕ → ℤ) (row top toptop : List ℤ) (x y : ℕ) : Type 0 where
  pub known : (k : ℕ) → k < x → get_or row k (pos 0) ≡ v k y
  pub above : 1 ≤ y → (k : ℕ) → k < length row → get_or top k (pos 0) ≡ v k (y - 1)
  pub above2 : 2 ≤ y → (k : ℕ) → k < length row → get_or toptop k (pos 0) ≡ v k (y - 2)

-- division toward zero
infixl 7 ◌Idiv◌
abbrev pub ◌Idiv◌ : ℤ → ℕ → ℤ
a Idiv m = quot_z a (pos m)

-- z kept between lo and hi
abbrev pub clamp : ℤ → ℤ → ℤ → ℤ
clamp z lo hi = larger lo (smaller hi z)

-- of W and N the nearer to W + N - NW, N on a tie
abbrev pub select : ℤ → ℤ → ℤ → ℤ
select w n nw = if (lt_z (magnitude (w +ℤ n -ℤ nw -ℤ w)) (magnitude (w +ℤ n -ℤ nw -ℤ n))) w n

-- the predictions by the predictor's number, 0 .. 13; number 6 is the weighted predictor's
abbrev pub predictions : ℤ → ℤ → ℤ → ℤ → ℤ → ℤ → ℤ → ℤ → List ℤ
predictions w n nw ne nn ww nee weighted =
    pos 0
    ∷ w
    ∷ n
    ∷ ((w +ℤ n) Idiv 2)
    ∷ select w n nw
    ∷ clamp (w +ℤ n -ℤ nw) (smaller w n) (larger w n)
    ∷ weighted
    ∷ ne
    ∷ nw
    ∷ ww
    ∷ ((w +ℤ nw) Idiv 2)
    ∷ ((n +ℤ nw) Idiv 2)
    ∷ ((n +ℤ ne) Idiv 2)
    ∷ ((pos 6 *ℤ n -ℤ pos 2 *ℤ nn +ℤ pos 7 *ℤ w +ℤ ww +ℤ nee +ℤ pos 3 *ℤ ne +ℤ pos 8) Idiv 16)
    ∷ []
