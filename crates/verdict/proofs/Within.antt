-- A table that passes the check is within the limits; and what such a table has of each of its tasks and steps, there or not.
-- Assumes nothing.
use Prim.Native.Nat.{ℕ, zero, suc, ◌+◌, ◌*◌, ◌≤◌, ◌<◌}
use mathlib.Core.Path.{◌≡◌, refl, sym, ap, ◌∙◌}
use mathlib.Core.Bool.{Bool, true, false}
use mathlib.Core.List.{List, [], ◌∷◌, map}
use native.Mathlib.Nat.{lt_of_lt_of_le, le_trans, mul-le-mul, not-suc-le-zero, le_of_suc-le-suc, ℕ_set}
use native.Mathlib.Omega.{arith}
use lib.Dec.{ltb}
use lib.ListN.{length, get_or, get_or-eq_default, length-map}
use borrow.Author.Tests.{ltb-true, ltb-false}
use Rattle.std.proofs.Math.Logic.{∥∥₁_elim}
use Rattle.table.specs.Limits.{most_tasks, most_resources, most_ticks, most_multiple}
use Rattle.table.specs.Table.{Task, Table, no_task, tasks_of, task_of}
use Rattle.table.specs.Map.{next_of}
use Rattle.table.specs.Valid.{Valid}
use Rattle.table.specs.declared.Next.{Next}
use Rattle.table.specs.declared.Next.TheVariants.{Lock, Finish}
use Rattle.table.proofs.Laws.{checked_valid}
use Rattle.table.proofs.Plans.{lock_below}
use Rattle.readers.specs.Read.{table_in}
use Rattle.numbers.proofs.Tests.{never}
use Rattle.verdict.specs.Demand.{demand, demand_sum}
use Rattle.verdict.specs.Blocking.{blocking}
use Rattle.verdict.specs.Times.{timed, without_plan, AreTimes}
use Rattle.verdict.specs.declared.search.Search.{Search}
use Rattle.verdict.specs.declared.sound.Sound.{Sound}
use Rattle.verdict.specs.declared.times.Times.{Times}
use Rattle.verdict.proofs.Each.{valid_each}
use Rattle.verdict.proofs.Demand.{sum_most}
use Rattle.verdict.proofs.Blocking.{blocking_most}
use Rattle.verdict.proofs.Alone.{demand_is}

pub sound_valid : (sound : Sound) → Valid (table_in sound.table)
sound_valid sound = checked_valid sound.table.words.now (table_in sound.table) sound.passes

-- a task that isn't there has no step
none_there : (place : ℕ) → next_of no_task.plan place ≡ Finish
unfolding next_of
none_there place = refl

-- a lock that stands in a plan is of a resource below the most
pub lock_within : (table : Table) → Valid table → (task place : ℕ) {next : Next} {r l : ℕ} → next ≡ next_of (task_of table task).plan place →
    next ≡ Lock r l → r < most_resources
lock_within table v task place {r = r} {l = l} said e = go (ltb task (tasks_of table)) refl
  where
    go : (b : Bool) → ltb task (tasks_of table) ≡ b → r < most_resources
    go true below =
        lt_of_lt_of_le (lock_below (v.each task (ltb-true task (tasks_of table) below)).nested place (sym said ∙ e)) v.resources_most
    go false above =
        let none : next_of (task_of table task).plan place ≡ Finish =
        ap (λ (x : Task). next_of x.plan place) (get_or-eq_default table.tasks no_task (ltb-false task (tasks_of table) above)) ∙ none_there place in
        never (cc)

-- ---- the times that a search goes by

deadline_at : (tasks : List Task) (times : List Times) → map timed times ≡ map without_plan tasks → (i : ℕ) (x : Times) → i < length times →
    (get_or times i x).deadline ≡ (get_or tasks i no_task).D
deadline_at tasks [] each i x l = absurd (not-suc-le-zero l)
deadline_at [] (y ∷ times) each i x l = never (cc)
deadline_at (task ∷ tasks) (y ∷ times) each zero x l =
    let same : timed y ≡ without_plan task = cc in
    ap (λ (z : Task). z.D) same
deadline_at (task ∷ tasks) (y ∷ times) each (suc i) x l = deadline_at tasks times (cc) i x (le_of_suc-le-suc l)

-- as many as the tasks
pub times_length : {tasks : List Task} {times : List Times} → ∥ AreTimes tasks times ∥₁ → length times ≡ length tasks
times_length {tasks} {times} are =
    ∥∥₁_elim are (ℕ_set _ _) (λ (a : AreTimes tasks times). sym (length-map times timed) ∙ ap length a.each ∙ length-map tasks without_plan)

-- and no more than a table may have
pub times_few : (search : Search) → length search.times.now ≤ most_tasks
times_few search = omega (arith, times_length search.its_times, (sound_valid search.sound.now).tasks_most)

-- the i-th has D of task i
pub deadline_is : {tasks : List Task} {times : List Times} → ∥ AreTimes tasks times ∥₁ → (i : ℕ) (x : Times) → i < length times → x ≡ get_or times i x →
    x.deadline ≡ (get_or tasks i no_task).D
deadline_is {tasks} {times} are i x l e =
    ap (λ (y : Times). y.deadline) e ∙ ∥∥₁_elim are (ℕ_set _ _) (λ (a : AreTimes tasks times). deadline_at tasks times a.each i x l)

-- ---- h(t) + b(t)

pub demand_within : {tasks : List Task} {times : List Times} → ∥ AreTimes tasks times ∥₁ → (t : ℕ) → demand_sum (map timed times) t ≡ demand_sum tasks t
demand_within {tasks} {times} are t = ∥∥₁_elim are (ℕ_set _ _) (λ (a : AreTimes tasks times). demand_is a t)

-- the most that both are up to P + the largest D
abbrev pub most_both : ℕ
most_both = most_tasks * (most_ticks * (1 + (most_multiple + most_ticks))) + most_ticks

pub both_within : (table : Table) → Valid table → (t : ℕ) → t ≤ most_multiple + most_ticks → demand table t + blocking table t ≤ most_both
both_within table v t l =
    let up : most_ticks * (1 + t) ≤ most_ticks * (1 + (most_multiple + most_ticks)) = omega arith in
    let d : demand table t ≤ most_tasks * (most_ticks * (1 + (most_multiple + most_ticks))) =
    le_trans (sum_most table.resources table.tasks t (valid_each table v)) (mul-le-mul v.tasks_most up) in
    omega (arith, blocking_most table t (valid_each table v))
