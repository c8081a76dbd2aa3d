-- What flattening writes is read back: the six words of a record, and record k of the list.
use borrow.Author.Tests.{lt-ltb, le-ltb, le-leb, ne_eqb}
use lib.Dec.{ltb, eqb}
use lib.IntN.{ℤ, pos, negsuc, ◌-ℤ◌}
use lib.ListN.{length}
use lib.Signed.{mag}
use mathlib.Core.Bool.{false}
use mathlib.Core.List.{List, ◌∷◌, ◌++◌}
use mathlib.Core.Path.{◌≡◌, refl, ◌∙◌}
use native.Mathlib.Omega.{arith}
use Prim.Native.Nat.{ℕ, ◌+◌, ◌-◌, ◌*◌, ◌/◌, ◌%◌, ◌≤◌, ◌<◌, ◌^◌}
use Rattle.integer.proofs.Parts.{of_minus, same}
use Rattle.integer.proofs.Wrap.{bits_parts, bits_of_wrap}
use Rattle.integer.specs.Word.{bits_of, wrap}
use Rattle.nodes.specs.declared.Leaf.{Leaf}
use Rattle.predict.specs.Predictors.{numbered}
use Rattle.predict.specs.declared.predictors.Predictor.{Predictor}
use Rattle.predict.specs.declared.predictors.Predictor.TheVariants.{Zero, West, North, AverageWestAndNorth, Select, Gradient, Weighted, NorthEast, NorthWest, WestWest, AverageWestAndNorthWest, AverageNorthAndNorthWest, AverageNorthAndNorthEast, AverageAll}
use Rattle.refusal.specs.Paper.{gives}
use Rattle.std.proofs.Common.{Ok}
use Rattle.flat.specs.Records.{record_of, signed_half}
use Rattle.flat.specs.declared.records.Record.TheVariants as flat
use Rattle.flatten.specs.Records.{predictor_number, leaf_words}

bits_small : (k : ℕ) → k < 2 ^ 32 → bits_of (pos k) ≡ k
bits_small k h = omega (arith, bits_parts (pos k))

bits_back : (k : ℕ) → k < 2 ^ 32 → bits_of (wrap (pos k)) ≡ k
bits_back k h = bits_of_wrap (pos k) ∙ bits_small k h

low_part : (b : ℕ) → b < 65536 → (65536 * 65535 + b) % 65536 ≡ b
low_part b h = omega arith

negative_half : (a : ℕ) → a < 32768 → bits_of (negsuc a) % 65536 ≡ 65535 - a
negative_half a h =
    let small : a % 4294967296 ≡ a = omega arith in
    let parts : 4294967295 - a ≡ 65536 * 65535 + (65535 - a) = omega arith in
    rw (small, parts) (low_part (65535 - a) (omega arith))

-- an offset of 16 bits is read back from its low half
half_back : (z : ℤ) → mag z < 32768 → signed_half (bits_of z % 65536) ≡ z
half_back (pos a) h =
    let is : bits_of (pos a) % 65536 ≡ a = omega (arith, bits_parts (pos a)) in
    rw (is, lt-ltb a 32768 h)
half_back (negsuc a) h =
    let is : bits_of (negsuc a) % 65536 ≡ 65535 - a = negative_half a h in
    let high : ltb (65535 - a) 32768 ≡ false = le-ltb (65535 - a) 32768 (omega arith) in
    rw (is, high) (same (pos (65535 - a) -ℤ pos 65536) (negsuc a) (omega (arith, of_minus (pos (65535 - a)) (pos 65536))))

-- a predictor is read back from its number's word
number_back : (p : Predictor) → numbered (bits_of (pos (predictor_number p))) ≡ Ok p
number_back Zero = refl
number_back West = refl
number_back North = refl
number_back AverageWestAndNorth = refl
number_back Select = refl
number_back Gradient = refl
number_back Weighted = refl
number_back NorthEast = refl
number_back NorthWest = refl
number_back WestWest = refl
number_back AverageWestAndNorthWest = refl
number_back AverageNorthAndNorthWest = refl
number_back AverageNorthAndNorthEast = refl
number_back AverageAll = refl

-- ---- six words, whatever follows them

six : (a b c d e f : ℤ) (rest : List ℤ) → ltb (length (a ∷ b ∷ c ∷ d ∷ e ∷ f ∷ rest)) 6 ≡ false
six a b c d e f rest =
    let long : 6 ≤ length (a ∷ b ∷ c ∷ d ∷ e ∷ f ∷ rest) = omega arith in
    le-ltb (length (a ∷ b ∷ c ∷ d ∷ e ∷ f ∷ rest)) 6 long

pub leaf_back : (l : Leaf) (rest : List ℤ) (place : ℕ) → l.multiplier < 2 ^ 32 → l.id < 2 ^ 32 → mag l.offset < 32768
    → record_of (leaf_words l ++ rest) place ≡ gives (flat.Leaf (record { predictor = l.predictor; multiplier = l.multiplier; context = l.id; offset = l.offset }))
unfolding record_of
leaf_back l rest place multiplier id offset =
    let half : bits_of (pos (bits_of l.offset % 65536)) ≡ bits_of l.offset % 65536 = bits_small (bits_of l.offset % 65536) (omega arith) in
    let low : bits_of l.offset % 65536 % 65536 ≡ bits_of l.offset % 65536 = omega arith in
    let high : bits_of l.offset % 65536 / 65536 ≡ 0 = omega arith in
    simp (six (negsuc 0) (pos (predictor_number l.predictor)) (wrap (pos l.multiplier)) (pos 0) (wrap (pos l.id)) (pos (bits_of l.offset % 65536)) rest, half, low, high, number_back l.predictor, bits_back l.multiplier multiplier, bits_back l.id id, half_back l.offset offset)

pub split_back : (property : ℕ) (value left right : ℤ) (first lp rp : ℕ) (rest : List ℤ) (place : ℕ)
    → property < 256 → first < 2 ^ 32 → lp < 256 → rp < 256
    → record_of (pos property ∷ value ∷ left ∷ right ∷ pos first ∷ pos (lp + 65536 * rp) ∷ rest) place
    ≡ gives (flat.Split (record { property = property; value = value; left_value = left; right_value = right; first = first; left_property = lp; right_property = rp }))
unfolding record_of
split_back property value left right first lp rp rest place h f l r =
    let is_property = bits_small property (omega arith) in
    let is_first = bits_small first f in
    let halves = bits_small (lp + 65536 * rp) (omega arith) in
    let low : (lp + 65536 * rp) % 65536 ≡ lp = omega arith in
    let high : (lp + 65536 * rp) / 65536 ≡ rp = omega arith in
    let not_leaf : eqb property 4294967295 ≡ false = ne_eqb property 4294967295 (λ e. omega (arith, e)) in
    simp (six (pos property) value left right (pos first) (pos (lp + 65536 * rp)) rest, is_property, is_first, halves, low, high, not_leaf, le-leb property 255 (omega arith), le-leb lp 255 (omega arith), le-leb rp 255 (omega arith))
