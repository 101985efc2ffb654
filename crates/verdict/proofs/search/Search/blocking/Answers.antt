-- `search::Search::blocking` meets its contract: a task with D above t adds its plan's greatest, and another adds nothing.
-- Assumes nothing.
use Prim.Native.Nat.{ℕ, ◌+◌, ◌≤◌, ◌<◌, max}
use mathlib.Core.Path.{◌≡◌, subst, ◌∙◌}
use native.Mathlib.Omega.{arith}
use borrow.Author.Tests.{lt-ltb, le-ltb}
use Rattle.std.proofs.Common.{rules, tests}
use Rattle.table.specs.Table.{Table, tasks_of, task_of}
use Rattle.verdict.specs.Searched.{searched}
use Rattle.verdict.specs.Blocking.{blocking, blocking_plan, blocking_tasks}
use Rattle.verdict.proofs.Rest.{rest, blocking_more, blocking_done}
use Rattle.verdict.proofs.Within.{times_length, times_few, deadline_is}
use Rattle.verdict.proofs.search.Search.blocking.Goals.{then-t-times, else-t-times}
use Rattle.verdict.proofs.search.Search.blocking.Goals as goal

module _ (table : Table) (t most i : ℕ) (l : i < tasks_of table) (so : max most (blocking_tasks table t (rest table i)) ≡ blocking table t) {d : ℕ}
    (is : d ≡ (task_of table i).D) where
  counts : {next : ℕ} → t < d → next ≡ max most (blocking_plan table t (task_of table i).plan) →
      max next (blocking_tasks table t (rest table (i + 1))) ≡ blocking table t
  counts h e =
      let off : blocking_tasks table t (rest table i) ≡ max (blocking_plan table t (task_of table i).plan) (blocking_tasks table t (rest table (i + 1))) =
      blocking_more table t i l ∙ rw (lt-ltb t (task_of table i).D (subst (λ (x : ℕ). t < x) is h)) in
      omega arith

  misses : d ≤ t → max most (blocking_tasks table t (rest table (i + 1))) ≡ blocking table t
  misses h =
      let off : blocking_tasks table t (rest table i) ≡ max 0 (blocking_tasks table t (rest table (i + 1))) =
      blocking_more table t i l ∙ rw (le-ltb t (task_of table i).D (subst (λ (x : ℕ). x ≤ t) is h)) in
      omega arith

pub overflow_cast-task : goal.overflow_cast-task
overflow_cast-task c = omega (arith, times_few c.args.self.now)

pub loop-task-preserved : goal.loop-task-preserved
loop-task-preserved c =
    let s = c.args.self.now in
    let table = searched s in
    let many = times_length s.its_times in
    let below : c.loop-task.task < tasks_of table = omega arith in
    let is = deadline_is s.its_times _ _ c.loop-task-test.true c.times-item.is in
    elim c.if-t-times.branch [
      | then-t-times w ↦ counts table c.args.t _ _ below c.loop-task.invariant is w.if-t-times.true (search (rules, tests))
      | else-t-times w ↦ rw w.most-is (misses table c.args.t _ _ below c.loop-task.invariant is w.if-t-times.false)
    ]

pub returns : goal.returns
returns c =
    let s = c.args.self.now in
    let table = searched s in
    let many = times_length s.its_times in
    let none = blocking_done table c.args.t c.loop-task.task (omega arith) in
    omega (arith, c.loop-task.invariant)
