-- Document 01's limits and nesting rules, and request 105's sums, as a predicate on tables, stated apart from the check. The theorems say that
-- the check accepts exactly the words of these tables. Assumes nothing.
use Rattle.std.specs.Prelude.{ℕ, ◌≤◌, ◌<◌, ◌≡◌, false, List, [], ◌∷◌, length}
use Rattle.table.specs.Limits.{most_tasks, most_resources, most_ticks, most_steps, most_held}
use Rattle.table.specs.Table.{Step, lock, unlock, Task, Table, tasks_of, task_of}
use Rattle.table.specs.Held.{Section, holds}
use Rattle.table.specs.Claims.{unclaimed, Fitting}

-- No "inner length above that of the section right around it".
abbrev pub Within : ℕ → List Section → Type 0
Within l [] = Unit {0}
Within l (s ∷ held) = l ≤ s.length

-- A lock that the nesting rules allow while `held` is held.
pub record Allowed (m c r l : ℕ) (held : List Section) : Type 0 where
  pub resource : r < m
  pub least : 1 ≤ l
  pub most : l ≤ c
  pub free : holds held r ≡ false
  pub fifth : length held < most_held
  pub inner : Within l held

-- The rest of a plan, while `held` is held: every lock is allowed, every unlock has something to unlock, and the end holds nothing.
pub data Nested (m c : ℕ) : List Section → List Step → Type 0 where
  ends : Nested m c [] []
  locks : {held : List Section} {steps : List Step} {r l : ℕ} → Allowed m c r l held →
      Nested m c (record { resource = r; length = l } ∷ held) steps → Nested m c held (lock r l ∷ steps)
  unlocks : {held : List Section} {steps : List Step} {s : Section} → Nested m c held steps →
      Nested m c (s ∷ held) (unlock ∷ steps)

-- "T, D, C, each" between 1 and 1,000,000, at most sixteen steps, and a plan that nests and fits.
pub record ValidTask (m : ℕ) (task : Task) : Type 0 where
  pub T_least : 1 ≤ task.T
  pub T_most : task.T ≤ most_ticks
  pub D_least : 1 ≤ task.D
  pub D_most : task.D ≤ most_ticks
  pub C_least : 1 ≤ task.C
  pub C_most : task.C ≤ most_ticks
  pub steps : length task.plan ≤ most_steps
  pub nested : Nested m task.C [] task.plan
  pub fitting : Fitting (unclaimed task.C ∷ []) task.plan

-- A table within document 01's limits.
pub record Valid (t : Table) : Type 0 where
  pub tasks_least : 1 ≤ tasks_of t
  pub tasks_most : tasks_of t ≤ most_tasks
  pub resources_most : t.resources ≤ most_resources
  pub each : (i : ℕ) → i < tasks_of t → ValidTask t.resources (task_of t i)
