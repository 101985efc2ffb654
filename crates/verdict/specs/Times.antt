-- T, D and C of a table's tasks, read off the words once. Assumes nothing.
use Rattle.std.specs.Prelude.{ℕ, ◌+◌, ◌*◌, ◌≡◌, List, [], map}
use Rattle.table.specs.Limits.{most_ticks, most_multiple}
use Rattle.table.specs.Table.{Task}
use Rattle.verdict.specs.declared.times.Times.{Times}

-- The task of which T, D and C are known, and no step: P, HEAVY's sum, h(t) and the largest D ask for no more.
abbrev pub timed : Times → Task
timed times = record { T = times.period; D = times.deadline; C = times.cost; plan = [] }

abbrev pub without_plan : Task → Task
without_plan task = record { T = task.T; D = task.D; C = task.C; plan = [] }

-- The times are those of the tasks, one by one.
pub record AreTimes (tasks : List Task) (times : List Times) : Type 0 where
  pub each : map timed times ≡ map without_plan tasks

-- The most that one task adds to HEAVY's sum, and to h(t) up to P + the largest D.
abbrev pub most_load : ℕ
most_load = most_ticks * most_multiple

abbrev pub most_demand : ℕ
most_demand = most_ticks * (1 + (most_multiple + most_ticks))
