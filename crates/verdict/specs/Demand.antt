-- The demand h(t) (document 01, "The verdict"; 002, section 4). Assumes nothing.
use Rattle.std.specs.Prelude.{ℕ, ◌+◌, ◌-◌, ◌*◌, ◌/◌, cond, List, [], ◌∷◌, leb}
use Rattle.table.specs.Table.{Task, Table}

-- "over tasks with D at most t, of C times (1 + (t - D) / T, rounded down)"
abbrev pub demand_of : Task → ℕ → ℕ
demand_of task t = cond (leb task.D t) (task.C * (1 + (t - task.D) / task.T)) 0

-- "the demand h(t) is the sum, over tasks .."
unfoldable pub demand_sum : List Task → ℕ → ℕ
demand_sum [] t = 0
demand_sum (task ∷ tasks) t = demand_of task t + demand_sum tasks t

abbrev pub demand : Table → ℕ → ℕ
demand table t = demand_sum table.tasks t
