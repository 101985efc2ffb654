-- `euclid::multiple` meets its contract: the periods still to come make P of what is reached, and what has passed the limit divides P.
-- Every product is at most 1,000,000 * 1,000,000.
-- Assumes nothing.
use Rattle.verdict.proofs.Reached.{Reached}
use Rattle.verdict.proofs.euclid.multiple.Given as goal

abbrev pub invariant-loop-task : goal.invariant-loop-task
invariant-loop-task l = Reached l.times l.p l.task-index
