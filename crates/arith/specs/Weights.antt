-- Module 1 of document 01: the table's rule, the highest set bit, the error weight.
use Rattle.std.specs.Prelude.{◌||◌, [], ◌∷◌, ◌≡◌, ℕ, zero, suc, ◌+◌, ◌-◌, ◌*◌, ◌/◌, ◌%◌, ◌^◌, ltb, eqb, pos, Result}
use Rattle.integer.specs.Order.{if}
use Rattle.refusal.specs.Paper.{Outcome, gives, refuses, said, one_result}
use Rattle.refusal.specs.declared.Refusal.{Refusal}
use Rattle.arith.specs.declared.Four.{Four}

-- entry i of the table is 2^24 / (i + 1) rounded down, i = 0 .. 63
abbrev pub entry : ℕ → ℕ
entry i = 2 ^ 24 / (i + 1)

-- the table's index is taken modulo 64
abbrev pub entry_at : ℕ → ℕ
entry_at index = entry (index % 64)

-- how often n can be halved until 1 is left, at most k times
unfoldable pub halvings : ℕ → ℕ → ℕ
halvings zero n = 0
halvings (suc k) n = if (ltb n 2) 0 (suc (halvings k (n / 2)))

-- the place of the highest set bit of a 64-bit number; document 01 asks it of positive numbers only, and at 0 it is the Rust's 127
unfoldable pub floor_log2 : ℕ → ℕ
floor_log2 n = if (eqb n 0) 127 (halvings 64 n)

-- s is the highest set bit of x + 1, less 5. If s < 0: 4 + m·entry(x). Else 4 + (m·entry(x >> s) >> s).
abbrev pub weight_by : ℕ → ℕ → ℕ → ℕ
weight_by h x m = if (ltb h 5) (4 + m * entry_at x) (4 + m * entry_at (x / 2 ^ (h - 5)) / 2 ^ (h - 5))

-- what an error x leaves of m
abbrev pub weight_of : ℕ → ℕ → ℕ
weight_of x m = weight_by (floor_log2 (x + 1)) x m

-- 12 where m is over 15
abbrev pub error_weight : ℕ → ℕ → Outcome ℕ
error_weight x m = if (ltb 15 m) (refuses 12 (pos 0 ∷ [])) (gives (weight_of x m))

-- the same for each of four
abbrev pub weights_of : Four → Four → Four
weights_of x m = record { e0 = weight_of x.e0 m.e0; e1 = weight_of x.e1 m.e1; e2 = weight_of x.e2 m.e2; e3 = weight_of x.e3 m.e3 }

abbrev pub error_weights : Four → Four → Outcome Four
error_weights x m =
    if (ltb 15 m.e0 || ltb 15 m.e1 || ltb 15 m.e2 || ltb 15 m.e3) (refuses 12 (pos 0 ∷ [])) (gives (weights_of x m))

-- ---- determinacy

pub error_weight_determined : (x m : ℕ) (r s : Result ℕ Refusal) → said r ≡ error_weight x m → said s ≡ error_weight x m → r ≡ s
error_weight_determined x m r s p q = one_result r s p q

pub error_weights_determined : {v : Outcome Four} (r s : Result Four Refusal) → said r ≡ v → said s ≡ v → r ≡ s
error_weights_determined r s p q = one_result r s p q
