-- The blocking b(t) (document 01, "The verdict"; 002, section 5). Assumes nothing.
use Rattle.std.specs.Prelude.{ℕ, max, cond, List, [], ◌∷◌, ltb, leb}
use Rattle.table.specs.Table.{Step, lock, unlock, Task, Table}
use Rattle.table.specs.Floor.{floor_of}

-- One step: the length of a lock on a resource whose floor is at most t.
abbrev pub blocking_step : Table → ℕ → Step → ℕ
blocking_step table t (lock r l) = cond (leb (floor_of table r) t) l 0
blocking_step table t unlock = 0

-- The greatest over a plan's steps, or 0.
unfoldable pub blocking_plan : Table → ℕ → List Step → ℕ
blocking_plan table t [] = 0
blocking_plan table t (s ∷ plan) = max (blocking_step table t s) (blocking_plan table t plan)

-- "the greatest length of a lock step of task j on resource r with D of j above t and the floor of r at most t, or 0"
unfoldable pub blocking_tasks : Table → ℕ → List Task → ℕ
blocking_tasks table t [] = 0
blocking_tasks table t (task ∷ tasks) =
    max (cond (ltb t task.D) (blocking_plan table t task.plan) 0) (blocking_tasks table t tasks)

abbrev pub blocking : Table → ℕ → ℕ
blocking table t = blocking_tasks table t table.tasks
