-- What a table says, away from its words: tasks with T, D, C and a plan of locks and unlocks (document 01, "The words of a table").
-- Everything after the check reads this and never the words. Assumes nothing.
use Rattle.std.specs.Prelude.{ℕ, List, [], length, get_or}

-- "Kind 1 locks the resource for a section of at most that length. Kind 2 unlocks the most recent one"
pub data Step : Type 0 where
  lock : ℕ → ℕ → Step
  unlock : Step

-- "for each task in order T, D, C, the number of steps s, and three words a step"
pub record Task : Type 0 where
  pub T : ℕ
  pub D : ℕ
  pub C : ℕ
  pub plan : List Step

-- "number of tasks n", which is the length of the list, and "number of resources m"
pub record Table : Type 0 where
  pub resources : ℕ
  pub tasks : List Task

abbrev pub no_task : Task
no_task = record { T = 0; D = 0; C = 0; plan = [] }

abbrev pub no_table : Table
no_table = record { resources = 0; tasks = [] }

-- n
abbrev pub tasks_of : Table → ℕ
tasks_of t = length t.tasks

-- Task i; a task that isn't there has zeros and no steps.
abbrev pub task_of : Table → ℕ → Task
task_of t i = get_or t.tasks i no_task
