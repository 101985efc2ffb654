-- No number of 64 digits has a digit beyond them.
-- Assumes nothing.
use Rattle.std.proofs.Common.{rules, sym}
use Rattle.sets.specs.Member.{wide}
use Rattle.sets.proofs.Digit.{has_beyond}
use Rattle.sets.proofs.has.Goals as goal

pub returns : goal.returns
returns g c = sym (has_beyond wide (g.S.Number.value c.args.set) c.args.k (search rules) (search rules))
