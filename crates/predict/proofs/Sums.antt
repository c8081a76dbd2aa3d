-- The sums of `average_all`: what the code holds of each is the number itself, since no sum leaves the range of 64 bits.
use Rattle.std.proofs.Common.{◌≡◌, refl, T, ◌<◌, ◌^◌, ◌+◌, ◌*◌, ℕ, suc, ℤ, pos, ◌+ℤ◌, ◌-ℤ◌, ◌*ℤ◌, w32, w64, to_z, of_z, FitsSigned, leb, arith}
use Rattle.std.specs.Int.Signed.{mag, quot_z}
use Rattle.integer.proofs.Bounded as bounded
use Rattle.integer.proofs.Bounded.{Below, back, held}
use Rattle.predict.specs.declared.neighbours.PredictionData.{PredictionData}
use Rattle.predict.specs.Predictors.{average_all}

-- the code has x, which is z, and z lies below the bound
record Is (b : ℕ) (x z : ℤ) : Type 0 where
  is : x ≡ z
  below : Below b z

fits : {b : ℕ} {x z : ℤ} → Is b x z → T (leb b (2 ^ 63)) → FitsSigned w64 x
fits h t = rw h.is (bounded.fits t h.below)

-- of a word, in 64 bits
wide : (z : ℤ) → mag z < 2 ^ 31 → Is (2 ^ 31) (to_z w64 (of_z w64 (to_z w32 (of_z w32 z)))) z
wide z h =
    let word : Below (2 ^ 31) z = record { size = h } in
    record { is = rw (held w32 z h) (back tt word); below = word }

kept : {b : ℕ} {x z : ℤ} → Is b x z → T (leb b (2 ^ 63)) → Is b (to_z w64 (of_z w64 x)) z
kept h t = record { is = rw h.is (back t h.below); below = h.below }

plus : {a b : ℕ} {x y u v : ℤ} → Is a x u → Is b y v → Is (a + b) (x +ℤ y) (u +ℤ v)
plus h k = record { is = rw (h.is, k.is); below = bounded.plus h.below k.below }

minus : {a b : ℕ} {x y u v : ℤ} → Is a x u → Is b y v → Is (a + b + 1) (x -ℤ y) (u -ℤ v)
minus h k = record { is = rw (h.is, k.is); below = bounded.minus h.below k.below }

times : (n : ℕ) {b : ℕ} {x z : ℤ} → Is b x z → Is (suc n * b) (pos (suc n) *ℤ x) (pos (suc n) *ℤ z)
times n h = record { is = rw h.is; below = bounded.scaled n h.below }

literal : (n : ℕ) → Is (suc n) (pos n) (pos n)
literal n = record { is = refl; below = record { size = omega arith } }

divided : (m : ℕ) {b : ℕ} {x z : ℤ} → Is b x z → Is (b + 1) (quot_z x (pos m)) (quot_z z (pos m))
divided m h = record { is = rw h.is; below = bounded.divided m h.below }

pub record Words (d : PredictionData) : Type 0 where
  pub left : mag d.left < 2 ^ 31
  pub top : mag d.top < 2 ^ 31
  pub toptop : mag d.toptop < 2 ^ 31
  pub topright : mag d.topright < 2 ^ 31
  pub leftleft : mag d.leftleft < 2 ^ 31
  pub toprightright : mag d.toprightright < 2 ^ 31

module _ (d : PredictionData) where
  abbrev long : ℤ → ℤ
  long z = to_z w64 (of_z w64 z)

  abbrev cell : ℤ → ℤ
  cell z = long (to_z w32 (of_z w32 z))

  abbrev pub first : ℤ
  first = long (pos 6 *ℤ cell d.top) -ℤ long (pos 2 *ℤ cell d.toptop)

  abbrev pub second : ℤ
  second = long first +ℤ long (pos 7 *ℤ cell d.left)

  abbrev pub third : ℤ
  third = long second +ℤ cell d.leftleft

  abbrev pub fourth : ℤ
  fourth = long third +ℤ cell d.toprightright

  abbrev pub fifth : ℤ
  fifth = long fourth +ℤ long (pos 3 *ℤ cell d.topright)

  abbrev pub sixth : ℤ
  sixth = long fifth +ℤ pos 8

  abbrev pub sixteenth : ℤ
  sixteenth = long (quot_z (long sixth) (pos 16))

  pub record Sums : Type 0 where
    pub second_fits : FitsSigned w64 second
    pub third_fits : FitsSigned w64 third
    pub fourth_fits : FitsSigned w64 fourth
    pub fifth_fits : FitsSigned w64 fifth
    pub sixth_fits : FitsSigned w64 sixth
    pub is : sixteenth ≡ average_all d

pub sums : (d : PredictionData) → Words d → Sums d
sums d words =
    let one = minus (kept (times 5 (wide d.top words.top)) tt) (kept (times 1 (wide d.toptop words.toptop)) tt) in
    let two = plus (kept one tt) (kept (times 6 (wide d.left words.left)) tt) in
    let three = plus (kept two tt) (wide d.leftleft words.leftleft) in
    let four = plus (kept three tt) (wide d.toprightright words.toprightright) in
    let five = plus (kept four tt) (kept (times 2 (wide d.topright words.topright)) tt) in
    let six = plus (kept five tt) (literal 8) in
    record {
      second_fits = fits two tt;
      third_fits = fits three tt;
      fourth_fits = fits four tt;
      fifth_fits = fits five tt;
      sixth_fits = fits six tt;
      is = (kept (divided 16 (kept six tt)) tt).is;
    }
