-- `average_all` meets its contract: each sum fits, and what the code holds is the number.
use Rattle.std.proofs.Common.{arith}
use Rattle.predict.proofs.Sums.{sums}
use Rattle.predict.proofs.predictors.average_all.Goals as goal

pub overflow_add-result : goal.overflow_add-result
overflow_add-result c = (sums c.args.«data» (omega arith)).second_fits

pub overflow_add-result-2 : goal.overflow_add-result-2
overflow_add-result-2 c = (sums c.args.«data» (omega arith)).third_fits

pub overflow_add-result-3 : goal.overflow_add-result-3
overflow_add-result-3 c = (sums c.args.«data» (omega arith)).fourth_fits

pub overflow_add-result-4 : goal.overflow_add-result-4
overflow_add-result-4 c = (sums c.args.«data» (omega arith)).fifth_fits

pub overflow_add-result-5 : goal.overflow_add-result-5
overflow_add-result-5 c = (sums c.args.«data» (omega arith)).sixth_fits

pub returns : goal.returns
returns c = (sums c.args.«data» (omega arith)).is
