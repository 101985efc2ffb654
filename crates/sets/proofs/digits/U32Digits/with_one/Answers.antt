-- `1 << k` is the weight of digit k, and `|` adds it where it is not there.
-- Assumes nothing.
use Rattle.sets.specs.Member.{width}
use Rattle.sets.proofs.Operator.{with_code}
use Rattle.sets.proofs.digits.U32Digits.with_one.Goals as goal

pub returns : goal.returns
returns c = with_code width c.args.self c.args.k c.requires
