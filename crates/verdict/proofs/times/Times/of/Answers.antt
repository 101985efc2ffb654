-- `times::Times::of` meets its contract: a task of a table that passes the check is within document 01's limits.
-- Assumes nothing.
use native.Mathlib.Omega.{arith}
use Rattle.verdict.proofs.Within.{sound_valid}
use Rattle.verdict.proofs.times.Times.of.Goals as goal

pub invariant_of-result : goal.invariant_of-result
invariant_of-result c =
    let within = (sound_valid c.args.sound.now).each c.args.task c.requires in
    record {
      period_least = omega (arith, within);
      period_most = omega (arith, within);
      deadline_most = omega (arith, within);
      cost_most = omega (arith, within);
    }
