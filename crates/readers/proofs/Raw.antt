-- What a reader goes by: the tasks of `table_at`, one by one, each by the words from its start on, and the steps of a plan as it lies there, one
-- by one, each by its place. Stated for every list of words, every map and every index.
-- Assumes nothing.
use Prim.Native.Nat.{ℕ, zero, suc, ◌+◌, ◌≤◌, ◌<◌, min}
use mathlib.Core.Path.{◌≡◌, refl, sym, ap, ap₂, ◌∙◌}
use mathlib.Core.Bool.{Bool, true, false, cond}
use mathlib.Core.List.{List, [], ◌∷◌}
use native.Mathlib.Nat.{not-suc-le-zero, le_of_suc-le-suc}
use native.Mathlib.Omega.{arith}
use lib.Dec.{ltb, eqb}
use lib.ListN.{length, get_or, get_or-eq_default, drop}
use borrow.Author.Tests.{ltb-true, ltb-false}
use Rattle.std.specs.Prelude.{None, Some}
use Rattle.std.specs.List.{range_with_len, list_any}
use Rattle.std.proofs.lemmas.List.{get_or-drop}
use Rattle.table.specs.Limits.{most_tasks, most_steps, at_period, at_deadline, at_cost, at_steps, at_plan, step_size, at_resource, at_length}
use Rattle.table.specs.Table.{Step, lock, unlock, Task, no_task, tasks_of, task_of}
use Rattle.table.specs.Floor.{step_locks, locks, uses}
use Rattle.table.specs.Map.{steps_at, task_at, tasks_at, table_at, next_of}
use Rattle.table.specs.declared.Map.{Map}
use Rattle.table.specs.declared.Next.{Next}
use Rattle.table.specs.declared.Next.TheVariants.{Lock, Unlock}
use Rattle.table.proofs.Laid.{steps_length, step_at_lem}
use Rattle.table.proofs.Plans.{next_finish}
use Rattle.numbers.proofs.Tests.{never}
use Rattle.readers.specs.Read.{table_in, words_of, task_in, at_step, step_in, locked_by}
use Rattle.readers.specs.declared.Table.{Table}

-- ---- the tasks

tasks_length : (n i : ℕ) (ws starts : List ℕ) → length (tasks_at n i ws starts) ≡ n
unfolding tasks_at
tasks_length zero i ws starts = refl
tasks_length (suc n) i ws starts = ap suc (tasks_length n (suc i) ws starts)

pub tasks_at_lem : (ws : List ℕ) (map : Map) → tasks_of (table_at ws map) ≡ min map.tasks most_tasks
unfolding table_at
tasks_at_lem ws map = tasks_length (min map.tasks most_tasks) 0 ws map.starts

task_from : (n i k : ℕ) (ws starts : List ℕ) → k < n → get_or (tasks_at n i ws starts) k no_task ≡ task_at ws (get_or starts (i + k) 0)
unfolding tasks_at
task_from zero i k ws starts l = absurd (not-suc-le-zero l)
task_from (suc n) i zero ws starts l =
    let e : i ≡ i + zero = omega arith in
    ap (λ (j : ℕ). task_at ws (get_or starts j 0)) e
task_from (suc n) i (suc k) ws starts l =
    let e : suc i + k ≡ i + suc k = omega arith in
    task_from n (suc i) k ws starts (le_of_suc-le-suc l) ∙ ap (λ (j : ℕ). task_at ws (get_or starts j 0)) e

-- a task that the map has
pub task_at_lem : (ws : List ℕ) (map : Map) (i : ℕ) → i < min map.tasks most_tasks → task_of (table_at ws map) i ≡ task_at ws (get_or map.starts i 0)
unfolding table_at
task_at_lem ws map i l =
    let e : 0 + i ≡ i = omega arith in
    task_from (min map.tasks most_tasks) 0 i ws map.starts l ∙ ap (λ (j : ℕ). task_at ws (get_or map.starts j 0)) e

-- a task that it has not
pub task_none : (ws : List ℕ) (map : Map) (i : ℕ) → min map.tasks most_tasks ≤ i → task_of (table_at ws map) i ≡ no_task
task_none ws map i l = get_or-eq_default (table_at ws map).tasks no_task (omega (arith, tasks_at_lem ws map))

-- ---- a task by the words from its start on

word_on : (ws : List ℕ) (at k : ℕ) → get_or (drop at ws) k 0 ≡ get_or ws (at + k) 0
word_on ws at k = get_or-drop at ws k 0

steps_on : (n : ℕ) (ws : List ℕ) (at k : ℕ) → steps_at n (drop at ws) k ≡ steps_at n ws (at + k)
unfolding steps_at
steps_on zero ws at k = refl
steps_on (suc n) ws at k =
    let e₁ : at + (k + at_resource) ≡ at + k + at_resource = omega arith in
    let e₂ : at + (k + at_length) ≡ at + k + at_length = omega arith in
    let e₃ : at + (k + step_size) ≡ at + k + step_size = omega arith in
    rw (word_on ws at k, word_on ws at (k + at_resource), word_on ws at (k + at_length), steps_on n ws at (k + step_size), e₁, e₂, e₃)

task_on : (ws : List ℕ) (at : ℕ) → task_in (drop at ws) ≡ task_at ws at
unfolding task_at
task_on ws at =
    rw (
      word_on ws at at_period,
      word_on ws at at_deadline,
      word_on ws at at_cost,
      word_on ws at at_steps,
      steps_on (min (get_or ws (at + at_steps) 0) most_steps) ws at at_plan,
    )

no_words : task_in [] ≡ no_task
unfolding task_at steps_at
no_words = refl

pub task_read : (table : Table) (i : ℕ) → task_in (words_of table i) ≡ task_of (table_in table) i
unfolding words_of
task_read table i = go (ltb i (min table.map.tasks most_tasks)) refl
  where
    go : (b : Bool) → ltb i (min table.map.tasks most_tasks) ≡ b
        → task_in (cond b (drop (get_or table.map.starts i 0) table.words.now) []) ≡ task_of (table_in table) i
    go true e =
        task_on table.words.now (get_or table.map.starts i 0)
        ∙ sym (task_at_lem table.words.now table.map i (ltb-true i (min table.map.tasks most_tasks) e))
    go false e = no_words ∙ sym (task_none table.words.now table.map i (ltb-false i (min table.map.tasks most_tasks) e))

-- ---- a task's first words

pub period_at : (table : Table) (i : ℕ) → get_or (words_of table i) at_period 0 ≡ (task_of (table_in table) i).T
unfolding task_at
period_at table i = ap (λ (task : Task). task.T) (task_read table i)

pub deadline_at : (table : Table) (i : ℕ) → get_or (words_of table i) at_deadline 0 ≡ (task_of (table_in table) i).D
unfolding task_at
deadline_at table i = ap (λ (task : Task). task.D) (task_read table i)

pub cost_at : (table : Table) (i : ℕ) → get_or (words_of table i) at_cost 0 ≡ (task_of (table_in table) i).C
unfolding task_at
cost_at table i = ap (λ (task : Task). task.C) (task_read table i)

pub plan_length : (ws : List ℕ) → length (task_in ws).plan ≡ min (get_or ws at_steps 0) most_steps
unfolding task_at
plan_length ws = steps_length (min (get_or ws at_steps 0) most_steps) ws at_plan

-- ---- a step of a plan as it lies

pub plan_step : (ws : List ℕ) (k : ℕ) → k < length (task_in ws).plan → get_or (task_in ws).plan k unlock ≡ step_in ws k
unfolding task_at
plan_step ws k l =
    let n = min (get_or ws at_steps 0) most_steps in
    step_at_lem n k ws at_plan (rw (steps_length n ws at_plan) at l)

-- what a plan's step says as an answer
abbrev pub next_said : Step → Next
next_said (lock r l) = Lock r l
next_said unlock = Unlock

pub next_there : (plan : List Step) (k : ℕ) → k < length plan → next_of plan k ≡ next_said (get_or plan k unlock)
unfolding next_of
next_there [] k l = absurd (not-suc-le-zero l)
next_there (lock r len ∷ plan) zero l = refl
next_there (unlock ∷ plan) zero l = refl
next_there (lock r len ∷ plan) (suc k) l = next_there plan k (le_of_suc-le-suc l)
next_there (unlock ∷ plan) (suc k) l = next_there plan k (le_of_suc-le-suc l)

pub next_at : (ws : List ℕ) (k : ℕ) → k < length (task_in ws).plan → next_of (task_in ws).plan k ≡ next_said (step_in ws k)
next_at ws k l = next_there (task_in ws).plan k l ∙ ap next_said (plan_step ws k l)

-- a step that locks, and one that doesn't
pub next_lock : (ws : List ℕ) (k : ℕ) {r l : ℕ} → k < length (task_in ws).plan → locked_by (step_in ws k) ≡ Some r
    → l ≡ get_or ws (at_step k + at_length) 0 → Lock r l ≡ next_of (task_in ws).plan k
next_lock ws k {r} {l} h e d = sym (next_at ws k h ∙ go (eqb (get_or ws (at_step k) 0) 1) e)
  where
    go : (b : Bool) → locked_by (cond b (lock (get_or ws (at_step k + at_resource) 0) (get_or ws (at_step k + at_length) 0)) unlock) ≡ Some r
        → next_said (cond b (lock (get_or ws (at_step k + at_resource) 0) (get_or ws (at_step k + at_length) 0)) unlock) ≡ Lock r l
    go true e = ap₂ Lock (cc) (sym d)
    go false e = never (cc)

pub next_unlock : (ws : List ℕ) (k : ℕ) → k < length (task_in ws).plan → locked_by (step_in ws k) ≡ None → Unlock ≡ next_of (task_in ws).plan k
next_unlock ws k h e = sym (next_at ws k h ∙ go (step_in ws k) e)
  where
    go : (s : Step) → locked_by s ≡ None → next_said s ≡ Unlock
    go (lock r l) e = never (cc)
    go unlock e = refl

-- what a reader of a step goes by
pub ruleset next_steps = (next_lock, next_unlock, next_finish)

-- ---- whether a plan locks a resource

-- the test that a reader makes of each step
abbrev pub locks_at : List ℕ → ℕ → ℕ → Bool
locks_at ws r k = cond (eqb (get_or ws (at_step k) 0) 1) (eqb (get_or ws (at_step k + at_resource) 0) r) false

locks_at_lem : (ws : List ℕ) (r k : ℕ) → locks_at ws r k ≡ step_locks (step_in ws k) r
locks_at_lem ws r k = go (eqb (get_or ws (at_step k) 0) 1)
  where
    go : (b : Bool) → cond b (eqb (get_or ws (at_step k + at_resource) 0) r) false
        ≡ step_locks (cond b (lock (get_or ws (at_step k + at_resource) 0) (get_or ws (at_step k + at_length) 0)) unlock) r
    go true = refl
    go false = refl

locks_from : (n i : ℕ) (ws : List ℕ) (r : ℕ) → list_any (locks_at ws r) (range_with_len i n) ≡ locks (steps_at n ws (at_step i)) r
unfolding steps_at locks
locks_from zero i ws r = refl
locks_from (suc n) i ws r =
    let next : at_step (i + 1) ≡ at_step i + step_size = omega arith in
    rw (locks_at_lem ws r i, ← next, locks_from n (i + 1) ws r)

pub uses_lem : (ws : List ℕ) (r : ℕ) → list_any (locks_at ws r) (range_with_len 0 (length (task_in ws).plan)) ≡ uses (task_in ws) r
unfolding task_at
uses_lem ws r =
    let n = min (get_or ws at_steps 0) most_steps in
    rw (steps_length n ws at_plan) (locks_from n 0 ws r)
