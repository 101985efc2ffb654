-- Where each task starts, and the table that is read off the words by such a map. A reader answers for every list of words and every map,
-- made-up ones included: what it reads is `table_at`, and for the map of a sound list that is the table itself (law `table_at`).
-- Assumes nothing.
use Rattle.std.specs.Prelude.{ℕ, zero, suc, ◌+◌, ◌*◌, min, List, [], ◌∷◌, get_or}
use Rattle.table.specs.Limits.{most_tasks, most_steps, at_tasks, at_period, at_deadline, at_cost, at_steps, at_plan, step_size, at_resource, at_length}
use Rattle.table.specs.Table.{Step, lock, unlock, Task, Table, tasks_of}
use Rattle.table.specs.Check.{step_said, Checked, sound, refused, check_of}
use Rattle.table.specs.declared.Map.{Map}
use Rattle.table.specs.declared.Next.{Next}
use Rattle.table.specs.declared.Next.TheVariants.{Lock, Unlock, Finish}

-- `left` steps as they lie, "three words a step".
unfoldable pub steps_at : ℕ → List ℕ → ℕ → List Step
steps_at zero ws at = []
steps_at (suc left) ws at =
    step_said (get_or ws at 0) (get_or ws (at + at_resource) 0) (get_or ws (at + at_length) 0) ∷ steps_at left ws (at + step_size)

-- The task that starts at a place, as it lies; no plan is read past the most steps that it may have.
unfoldable pub task_at : List ℕ → ℕ → Task
task_at ws at = record {
  T = get_or ws (at + at_period) 0;
  D = get_or ws (at + at_deadline) 0;
  C = get_or ws (at + at_cost) 0;
  plan = steps_at (min (get_or ws (at + at_steps) 0) most_steps) ws (at + at_plan);
}

-- The tasks that start at the places from the i-th on.
unfoldable pub tasks_at : ℕ → ℕ → List ℕ → List ℕ → List Task
tasks_at zero i ws starts = []
tasks_at (suc left) i ws starts = task_at ws (get_or starts i 0) ∷ tasks_at left (suc i) ws starts

-- The table that a map reads off the words.
unfoldable pub table_at : List ℕ → Map → Table
table_at ws map = record {
  resources = map.resources;
  tasks = tasks_at (min map.tasks most_tasks) 0 ws map.starts;
}

-- The place behind the task that starts at a place.
abbrev pub behind : List ℕ → ℕ → ℕ
behind ws at = at + at_plan + step_size * get_or ws (at + at_steps) 0

-- Where `left` tasks start, the first at a place.
unfoldable pub starts_from : ℕ → List ℕ → ℕ → List ℕ
starts_from zero ws at = []
starts_from (suc left) ws at = at ∷ starts_from left ws (behind ws at)

-- The first k of a list, and zeros where it has fewer.
unfoldable pub padded : ℕ → List ℕ → List ℕ
padded zero xs = []
padded (suc k) [] = 0 ∷ padded k []
padded (suc k) (x ∷ xs) = x ∷ padded k xs

-- The map of a list that is refused.
abbrev pub no_map : Map
no_map = record { tasks = 0; resources = 0; starts = padded most_tasks [] }

-- The map of a list of words: of a sound one where each task starts, of any other zeros.
abbrev pub map_from : Checked → List ℕ → Map
map_from (sound t) ws = record {
  tasks = tasks_of t;
  resources = t.resources;
  starts = padded most_tasks (starts_from (tasks_of t) ws at_tasks);
}
map_from (refused number place) ws = no_map

unfoldable pub map_of : List ℕ → Map
map_of ws = map_from (check_of ws) ws

-- A plan's step at a place: a lock, an unlock, or behind the last one the finish, "which isn't written down".
unfoldable pub next_of : List Step → ℕ → Next
next_of [] place = Finish
next_of (lock r l ∷ plan) zero = Lock r l
next_of (unlock ∷ plan) zero = Unlock
next_of (s ∷ plan) (suc place) = next_of plan place
