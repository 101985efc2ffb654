-- `Table::users` meets its contract. The loop's invariant: the set, with the users among the tasks that are left, is the set that is asked for.
-- Assumes nothing.
use mathlib.Core.Path.{◌≡◌}
use Rattle.table.specs.Floor.{users_of}
use Rattle.readers.specs.Read.{table_in}
use Rattle.readers.proofs.Visiting.{users_on}
use Rattle.readers.proofs.Table.users.Given as goal

abbrev pub invariant-loop-task : goal.invariant-loop-task
invariant-loop-task l = users_on (table_in l.self) l.resource l.set l.task ≡ users_of (table_in l.self) l.resource
