-- `1 << k` is the weight of digit k, and `& !` keeps every digit but that one.
-- Assumes nothing.
use Rattle.std.proofs.Common.{rules}
use Rattle.sets.specs.Member.{width}
use Rattle.sets.proofs.Operator.{without_code}
use Rattle.sets.proofs.without.Goals as goal

pub returns-then-k-lt-BITS : goal.returns-then-k-lt-BITS
returns-then-k-lt-BITS c = without_code width c.args.set c.args.k (search rules) (search rules)
