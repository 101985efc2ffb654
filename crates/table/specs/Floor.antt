-- The users of a resource and its floor (document 01, "The words of a table" and "The machine's rules"). Assumes nothing.
use Rattle.std.specs.Prelude.{ℕ, suc, min, Bool, false, cond, ◌||◌, List, [], ◌∷◌, eqb}
use Rattle.sets.specs.Member.{width, with_of}
use Rattle.table.specs.Table.{Step, lock, unlock, Task, Table}

-- Does a plan lock r?
abbrev pub step_locks : Step → ℕ → Bool
step_locks (lock q l) r = eqb q r
step_locks unlock r = false

unfoldable pub locks : List Step → ℕ → Bool
locks [] r = false
locks (s ∷ plan) r = step_locks s r || locks plan r

-- "The users of a resource are the tasks whose plan locks it; a resource may have none."
abbrev pub uses : Task → ℕ → Bool
uses task r = locks task.plan r

-- The users as a set, tasks counted from i.
unfoldable pub users_from : ℕ → List Task → ℕ → ℕ
users_from i [] r = 0
users_from i (task ∷ tasks) r = cond (uses task r) (with_of width (users_from (suc i) tasks r) i) (users_from (suc i) tasks r)

abbrev pub users_of : Table → ℕ → ℕ
users_of t r = users_from 0 t.tasks r

-- The D of each user, in the tasks' order.
unfoldable pub deadlines_of : List Task → ℕ → List ℕ
deadlines_of [] r = []
deadlines_of (task ∷ tasks) r = cond (uses task r) (task.D ∷ deadlines_of tasks r) (deadlines_of tasks r)

-- The least number of a list; of none it is 0.
unfoldable pub least : List ℕ → ℕ
least [] = 0
least (d ∷ []) = d
least (d ∷ e ∷ ds) = min d (least (e ∷ ds))

-- "The floor of a resource is the least D among its users (001, 2.3)." A resource without users has floor 0, which no rule asks for.
abbrev pub floor_of : Table → ℕ → ℕ
floor_of t r = least (deadlines_of t.tasks r)
