-- Document 01's limits, "The words of a table": every most of the table there stands here and nowhere else, and so do the places of the words.
-- Assumes nothing.
use Rattle.std.specs.Prelude.{ℕ, ◌+◌, ◌*◌, ◌^◌}

-- "n | 1 | 16"
abbrev pub most_tasks : ℕ
most_tasks = 16

-- "m | 0 | 16"
abbrev pub most_resources : ℕ
most_resources = 16

-- "T, D, C, each | 1 | 1,000,000"
abbrev pub most_ticks : ℕ
most_ticks = 1_000_000

-- "s | 0 | 16"
abbrev pub most_steps : ℕ
most_steps = 16

-- "sections held at once by a job | 0 | 4"
abbrev pub most_held : ℕ
most_held = 4

-- The most levels that are open at once: one in each section, and the outermost.
abbrev pub most_levels : ℕ
most_levels = most_held + 1

-- "Word 0: number of tasks n. Word 1: number of resources m. Then for each task": where the first task starts.
abbrev pub at_tasks : ℕ
at_tasks = 2

-- "for each task in order T, D, C, the number of steps s, and three words a step": how far behind a task's start each of its words stands, and
-- its plan.
abbrev pub at_period : ℕ
at_period = 0

abbrev pub at_deadline : ℕ
at_deadline = 1

abbrev pub at_cost : ℕ
at_cost = 2

abbrev pub at_steps : ℕ
at_steps = 3

abbrev pub at_plan : ℕ
at_plan = 4

-- "three words a step: kind, resource, length": how many, and how far behind the first the others stand.
abbrev pub step_size : ℕ
step_size = 3

abbrev pub at_resource : ℕ
at_resource = 1

abbrev pub at_length : ℕ
at_length = 2

-- The longest list that passes the check: the first words, and for each task its own and those of the longest plan.
abbrev pub room : ℕ
room = at_tasks + most_tasks * (at_plan + most_steps * step_size)

-- "clock | 0 | 2^40 - 1": the first time that is none.
abbrev pub end_of_time : ℕ
end_of_time = 2 ^ 40

-- "a stored time is above 2^40 + 1,000,000"
abbrev pub most_stored : ℕ
most_stored = end_of_time + most_ticks

-- "its count of accepted releases is above 2^44": sixteen times 2^40, one for each task at each time.
abbrev pub most_releases : ℕ
most_releases = most_tasks * end_of_time

-- "23 LONG if P is above 1,000,000"
abbrev pub most_multiple : ℕ
most_multiple = 1_000_000
