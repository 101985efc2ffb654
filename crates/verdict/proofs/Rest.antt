-- The tasks that a loop over a table has still to come to, from task i on, and b(t) of them: one task is taken off at a time.
-- Assumes nothing.
use Prim.Native.Nat.{ℕ, ◌+◌, ◌≤◌, ◌<◌, max}
use mathlib.Core.Path.{◌≡◌, sym, ap, ◌∙◌}
use mathlib.Core.Bool.{cond}
use mathlib.Core.List.{List, [], ◌∷◌}
use native.Mathlib.Numerals.{add-one}
use lib.Dec.{ltb}
use lib.ListN.{drop, drop_of_length-le}
use lib.Seq.{drop-cons}
use Rattle.table.specs.Table.{Task, Table, no_task, tasks_of, task_of}
use Rattle.verdict.specs.Blocking.{blocking_plan, blocking_tasks}
use Rattle.verdict.proofs.Blocking.{tasks_nil, tasks_cons}

-- task i and those behind it
abbrev pub rest : Table → ℕ → List Task
rest table i = drop i table.tasks

pub rest_more : (table : Table) (i : ℕ) → i < tasks_of table → rest table i ≡ task_of table i ∷ rest table (i + 1)
rest_more table i l =
    drop-cons table.tasks i no_task l ∙ ap (λ (k : ℕ). task_of table i ∷ drop k table.tasks) (sym (add-one i))

pub rest_none : (table : Table) (i : ℕ) → tasks_of table ≤ i → rest table i ≡ []
rest_none table i l = drop_of_length-le table.tasks l

pub blocking_more : (table : Table) (t i : ℕ) → i < tasks_of table →
    blocking_tasks table t (rest table i)
    ≡ max (cond (ltb t (task_of table i).D) (blocking_plan table t (task_of table i).plan) 0) (blocking_tasks table t (rest table (i + 1)))
blocking_more table t i l = ap (blocking_tasks table t) (rest_more table i l) ∙ tasks_cons table t (task_of table i) (rest table (i + 1))

pub blocking_done : (table : Table) (t i : ℕ) → tasks_of table ≤ i → blocking_tasks table t (rest table i) ≡ 0
blocking_done table t i l = ap (blocking_tasks table t) (rest_none table i l) ∙ tasks_nil table t
