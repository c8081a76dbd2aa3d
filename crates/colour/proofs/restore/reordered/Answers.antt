-- `reordered` meets its contract: order 2, whose words are read back.
use Rattle.std.proofs.Common.{◌≡◌, arith, refl, w32, to_z, of_z}
use Rattle.colour.proofs.restore.reordered.Goals as goal

pub returns-in-2 : goal.returns-in-2
returns-in-2 c =
    let a : to_z w32 (of_z w32 c.args.t.a) ≡ c.args.t.a = grind arith in
    let b : to_z w32 (of_z w32 c.args.t.b) ≡ c.args.t.b = grind arith in
    let third : to_z w32 (of_z w32 c.args.t.c) ≡ c.args.t.c = grind arith in
    simp (c.in-2.is, a, b, third)
