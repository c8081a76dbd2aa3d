-- A header in range, value by value; and what an ask can have found, one by one.
use native.Mathlib.Omega.{arith}
use Rattle.std.proofs.lemmas.Bool.Decides.{nat_tests}
use mathlib.Core.Bool.{true}
use mathlib.Core.Path.{◌≡◌}
use Prim.Native.Nat.{◌≤◌, ◌<◌, ◌^◌}
use lib.Signed.{mag}
use Rattle.blend.specs.declared.WeightedHeader.{WeightedHeader}
use Rattle.blend.specs.declared.Found.{Found}
use Rattle.blend.specs.Blend.{in_range, possible}

pub record Ranges (h : WeightedHeader) : Type 0 where
  pub p1c_range : h.p1c ≤ 31
  pub p2c_range : h.p2c ≤ 31
  pub p3ca_range : h.p3ca ≤ 31
  pub p3cb_range : h.p3cb ≤ 31
  pub p3cc_range : h.p3cc ≤ 31
  pub p3cd_range : h.p3cd ≤ 31
  pub p3ce_range : h.p3ce ≤ 31
  pub w0_range : h.w0 ≤ 15
  pub w1_range : h.w1 ≤ 15
  pub w2_range : h.w2 ≤ 15
  pub w3_range : h.w3 ≤ 15

pub ranges : (h : WeightedHeader) → in_range h ≡ true → Ranges h
unfolding in_range
ranges h all =
    record {
      p1c_range = grind (arith, nat_tests);
      p2c_range = grind (arith, nat_tests);
      p3ca_range = grind (arith, nat_tests);
      p3cb_range = grind (arith, nat_tests);
      p3cc_range = grind (arith, nat_tests);
      p3cd_range = grind (arith, nat_tests);
      p3ce_range = grind (arith, nat_tests);
      w0_range = grind (arith, nat_tests);
      w1_range = grind (arith, nat_tests);
      w2_range = grind (arith, nat_tests);
      w3_range = grind (arith, nat_tests);
    }

pub all_within : (f : Found) → possible f ≡ true → (mag f.p0 < 2 ^ 40) × (mag f.p1 < 2 ^ 40) × (mag f.p2 < 2 ^ 40) × (mag f.p3 < 2 ^ 40) × (mag f.pred < 2 ^ 40)
unfolding possible
all_within f all = (grind (arith, nat_tests), grind (arith, nat_tests), grind (arith, nat_tests), grind (arith, nat_tests), grind (arith, nat_tests))
