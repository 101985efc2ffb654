-- The laws of what holds of each task of a list (`Each`), so that a law about tasks goes by the list and not by an index.
-- Assumes nothing.
use Prim.Native.Nat.{ℕ, zero, suc, ◌≤◌, ◌<◌, suc-le-suc}
use mathlib.Core.List.{List, [], ◌∷◌}
use native.Mathlib.Nat.{le_of_suc-le-suc, not-suc-le-zero}
use native.Mathlib.Omega.{arith}
use lib.ListN.{length, get_or}
use Rattle.numbers.specs.Each.{Each}
use Rattle.table.specs.Table.{Task, Table, no_task}
use Rattle.table.specs.Valid.{ValidTask, Valid}

pub each_map : (P Q : Task → Type 0) (tasks : List Task) → ((task : Task) → P task → Q task) → Each P tasks → Each Q tasks
each_map P Q [] f h = tt
each_map P Q (task ∷ tasks) f h = (f task h.0, each_map P Q tasks f h.1)

pub each_all : (P : Task → Type 0) (tasks : List Task) → ((i : ℕ) → i < length tasks → P (get_or tasks i no_task)) → Each P tasks
each_all P [] f = tt
each_all P (task ∷ tasks) f = (f zero (omega arith), each_all P tasks (λ i l. f (suc i) (suc-le-suc l)))

pub each_at : (P : Task → Type 0) (tasks : List Task) → Each P tasks → (i : ℕ) → i < length tasks → P (get_or tasks i no_task)
each_at P [] h i l = absurd (not-suc-le-zero l)
each_at P (task ∷ tasks) h zero l = h.0
each_at P (task ∷ tasks) h (suc i) l = each_at P tasks h.1 i (le_of_suc-le-suc l)

-- each T is at least 1
abbrev pub Periods : List Task → Type 0
Periods tasks = Each (λ (task : Task). 1 ≤ task.T) tasks

-- what a table within document 01's limits has of each task
pub valid_each : (table : Table) → Valid table → Each (ValidTask table.resources) table.tasks
valid_each table v = each_all (ValidTask table.resources) table.tasks v.each

pub valid_periods : (table : Table) → Valid table → Periods table.tasks
valid_periods table v = each_all (λ (task : Task). 1 ≤ task.T) table.tasks (λ i l. (v.each i l).T_least)
