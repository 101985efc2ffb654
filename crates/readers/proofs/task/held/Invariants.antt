-- `task::held` meets its contract. The loop's invariant: the set, with what the steps before the place that is left hold, is the set that is
-- asked for. The measure is that place. Assumes nothing.
use mathlib.Core.Path.{◌≡◌}
use Rattle.table.specs.Held.{held_by, held_set}
use Rattle.readers.specs.Read.{task_in}
use Rattle.readers.proofs.Closing.{held_on}
use Rattle.readers.proofs.task.held.Given as goal

abbrev pub invariant-loop-open : goal.invariant-loop-open
invariant-loop-open l = held_on l.set (held_by (task_in l.words).plan l.left) ≡ held_set (held_by (task_in l.words).plan l.place)

abbrev pub decreases-loop-open : goal.decreases-loop-open
decreases-loop-open l = l.left
