-- The table that is read off a list of words by a map, and what the readers ask of one task's words on the way: one step of its plan, and which
-- lock is open before a place. Assumes nothing.
use Rattle.std.specs.Prelude.{ℕ, ◌+◌, ◌*◌, ◌<◌, ◌≡◌, min, cond, ltb, List, [], ◌∷◌, get_or, drop, Option, None, Some}
use Rattle.table.specs.Limits.{most_tasks, at_plan, step_size, at_resource, at_length}
use Rattle.table.specs.Table as said
use Rattle.table.specs.Table.{Step, lock, unlock, Task}
use Rattle.table.specs.Held.{held_by}
use Rattle.table.specs.Check.{step_said}
use Rattle.table.specs.Map.{task_at, table_at}
use Rattle.readers.specs.declared.Table.{Table}
use Rattle.readers.specs.declared.task.Open.{Open}

abbrev pub table_in : Table → said.Table
table_in table = table_at table.words.now table.map

-- The words of a task, from its start on; a task that isn't there has none.
unfoldable pub words_of : Table → ℕ → List ℕ
words_of table task = cond (ltb task (min table.map.tasks most_tasks)) (drop (get_or table.map.starts task 0) table.words.now) []

-- The task whose words these are.
abbrev pub task_in : List ℕ → Task
task_in ws = task_at ws 0

-- How far behind a task's start the step at a place of its plan stands, and that step as it lies.
abbrev pub at_step : ℕ → ℕ
at_step place = at_plan + step_size * place

abbrev pub step_in : List ℕ → ℕ → Step
step_in ws place = step_said (get_or ws (at_step place) 0) (get_or ws (at_step place + at_resource) 0) (get_or ws (at_step place + at_length) 0)

-- The resource that a step locks.
abbrev pub locked_by : Step → Option ℕ
locked_by (lock r l) = Some r
locked_by unlock = None

-- The innermost of the locks that are open before a place of a plan: its section lies around nothing else, and what is held around it is what
-- was held before it. Where there is none, nothing is held.
abbrev pub OpenBefore : List Step → ℕ → Option Open → Type 0
OpenBefore plan place None = held_by plan place ≡ []
OpenBefore plan place (Some found) =
    (found.place < place) × ((l : ℕ) × (held_by plan place ≡ record { resource = found.resource; length = l } ∷ held_by plan found.place))
