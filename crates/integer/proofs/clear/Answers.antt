-- `clear` meets its contract: zeros are the table of a rule that gives 0.
use Rattle.std.proofs.Common.{◌≡◌, ◌∙◌, sym, arith, pos, length, replicate}
use Rattle.integer.proofs.Fill.{tabulate_constant}
use Rattle.integer.proofs.clear.Goals as goal

pub returns : goal.returns
returns c =
    let zeros : c.fill.new.self ≡ replicate (length c.args.lent.now) (pos 0) = search arith in
    zeros ∙ sym (tabulate_constant (pos 0) (length c.args.lent.now))
