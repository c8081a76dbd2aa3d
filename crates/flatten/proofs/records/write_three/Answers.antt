-- `write_three` meets its contract: the children as they are read, in the record.
use Rattle.flatten.proofs.Children.{as_stored}
use Rattle.flatten.proofs.records.write_three.Goals as goal

pub returns-clause-output_after : goal.returns-clause-output_after
returns-clause-output_after c =
    as_stored c.args.words.now c.args.split c.args.first c.read_child-left.ensures c.read_child-right.ensures c.args.output.now c.args.at c.write_split.ensures
