-- `search::Search::blocking` meets its contract: the greater of what is found so far and of the tasks still to come is b(t).
-- Assumes nothing.
use Prim.Native.Nat.{max}
use mathlib.Core.Path.{◌≡◌}
use Rattle.verdict.specs.Searched.{searched}
use Rattle.verdict.specs.Blocking.{blocking, blocking_tasks}
use Rattle.verdict.proofs.Rest.{rest}
use Rattle.verdict.proofs.search.Search.blocking.Given as goal

abbrev pub invariant-loop-task : goal.invariant-loop-task
invariant-loop-task l =
    let table = searched l.self in
    max l.most (blocking_tasks table l.t (rest table l.task)) ≡ blocking table l.t
