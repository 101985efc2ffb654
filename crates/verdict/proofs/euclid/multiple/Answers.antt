-- `euclid::multiple` meets its contract. That what has passed the limit is passed by P is left to the tactic, which is given `passed`: so no name
-- here hangs on the limit's test.
-- Assumes nothing.
use native.Mathlib.Omega.{arith}
use Rattle.verdict.proofs.Reached.{some_divisor, again, ended}
use Rattle.verdict.proofs.euclid.multiple.Goals as goal

pub nonzero_div-p : goal.nonzero_div-p
nonzero_div-p c = some_divisor c.loop-task.p c.task-item.result c.gcd.ensures

pub loop-task-preserved : goal.loop-task-preserved
loop-task-preserved c = again c.loop-task.invariant c.loop-task-test.true c.task-item.is c.gcd.ensures (omega arith)

pub returns : goal.returns
returns c = ended _ _ _ c.loop-task.invariant c.loop-task-test.false
