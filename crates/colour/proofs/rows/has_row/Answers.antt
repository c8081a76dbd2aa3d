-- `has_row` meets its contract: the last test is by the row's begin.
use Rattle.std.proofs.Common.{arith, ◌≡◌, ◌≤◌, ◌%◌}
use Rattle.colour.proofs.RowWithin.{by_begin}
use Rattle.colour.proofs.rows.has_row.Goals as goal

pub returns-then-y-lt1073741824 : goal.returns-then-y-lt1073741824
returns-then-y-lt1073741824 c =
    let one : 1 ≤ c.args.width = grind arith in
    let whole : c.args.length % c.args.width ≡ 0 = grind arith in
    search (arith, by_begin c.args.length c.args.width c.args.y one whole)
