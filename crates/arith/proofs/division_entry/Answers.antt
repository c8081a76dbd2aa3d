-- `division_entry` meets its promise: the table's rule is a test at each of its 64 entries, which antt computes, and the index is below 64.
use Rattle.integer.specs.Fill.{tabulate}
use Rattle.arith.proofs.Table.{looked_up}
use Rattle.arith.proofs.division_entry.Goals as goal

pub returns : goal.returns
unfolding tabulate
returns c = looked_up c.args.index
