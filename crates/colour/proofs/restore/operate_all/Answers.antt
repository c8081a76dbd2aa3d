-- `operate_all` meets its contract: operation 0 leaves every word as it is, and operation 1 is 2 with two planes exchanged.
use Rattle.colour.proofs.Planes.{untouched}
use Rattle.colour.proofs.restore.operate_all.Goals as goal

pub returns-in-0 : goal.returns-in-0
returns-in-0 c =
    rw c.in-0.is (untouched c.args.a.now c.args.b.now c.args.c.now c.requires.0 c.requires.1)

pub returns-in-1 : goal.returns-in-1
returns-in-1 c =
    let made = c.restore_all.ensures in
    rw c.in-1.is (record { first_is = made.first_is; second_is = made.third_is; third_is = made.second_is })
