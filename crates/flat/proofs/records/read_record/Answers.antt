-- `read_record` meets its promise: fewer than six words are no record.
use borrow.Author.Tests.{lt-ltb}
use Rattle.flat.specs.Records.{record_of}
use Rattle.flat.proofs.records.read_record.Goals as goal

pub returns-then-words-lt6 : goal.returns-then-words-lt6
unfolding record_of
returns-then-words-lt6 c = simp (lt-ltb _ _ c.if-words-lt6.true)
