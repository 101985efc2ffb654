-- "The words of a table" (document 01): the list of words that says a table. Stated apart from the check, which reads such lists; the theorems
-- say that the check accepts exactly the words of valid tables, each for its own table (laws `valid_checked` and `words_back`).
-- Assumes nothing.
use Rattle.std.specs.Prelude.{ℕ, List, [], ◌∷◌, ◌++◌, length}
use Rattle.table.specs.Table.{Step, lock, unlock, Task, Table, tasks_of}

-- "three words a step: kind, resource, length. Kind 1 locks .. Kind 2 unlocks the most recent one; its other words are 0."
abbrev pub step_words : Step → List ℕ
step_words (lock r l) = 1 ∷ r ∷ l ∷ []
step_words unlock = 2 ∷ 0 ∷ 0 ∷ []

-- "After the last step comes the finish, which isn't written down."
unfoldable pub plan_words : List Step → List ℕ
plan_words [] = []
plan_words (step ∷ plan) = step_words step ++ plan_words plan

-- "for each task in order T, D, C, the number of steps s, and three words a step"
unfoldable pub task_words : Task → List ℕ
task_words task = task.T ∷ task.D ∷ task.C ∷ length task.plan ∷ plan_words task.plan

unfoldable pub tasks_words : List Task → List ℕ
tasks_words [] = []
tasks_words (task ∷ tasks) = task_words task ++ tasks_words tasks

-- "Word 0: number of tasks n. Word 1: number of resources m. Then for each task in order .."
unfoldable pub words_of : Table → List ℕ
words_of t = tasks_of t ∷ t.resources ∷ tasks_words t.tasks
