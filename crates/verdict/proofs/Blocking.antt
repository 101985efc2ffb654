-- The blocking b(t): from the largest D on it is 0; before every floor of a locked resource it is 0; where t is no floor it does not rise; and a
-- bound for it.
-- Assumes nothing.
use Prim.Native.Nat.{ℕ, suc, ◌≤◌, ◌<◌, zero-le, max}
use mathlib.Core.Path.{◌≡◌, refl}
use mathlib.Core.Logic.{◌≢◌}
use mathlib.Core.Bool.{Bool, true, false, cond}
use mathlib.Core.List.{List, [], ◌∷◌}
use native.Mathlib.Nat.{le_refl, max-le, le_trans}
use native.Mathlib.Omega.{arith}
use lib.Dec.{leb, ltb, eqb}
use borrow.Author.Tests.{lt-leb, le-leb, leb-true, leb-false, lt-ltb, le-ltb, ltb-true, eq-eqb}
use Rattle.table.specs.Limits.{most_ticks}
use Rattle.table.specs.Table.{Step, lock, unlock, Task, Table}
use Rattle.table.specs.Held.{Section}
use Rattle.table.specs.Floor.{step_locks, locks, floor_of}
use Rattle.table.specs.Valid.{Nested, ends, ValidTask}
use Rattle.table.specs.Valid as valid
use Rattle.std.proofs.lemmas.Bool.{or_left, or_right}
use Rattle.verdict.specs.Blocking.{blocking_step, blocking_plan, blocking_tasks, blocking}
use Rattle.verdict.specs.Verdict.{largest}
use Rattle.numbers.specs.Each.{Each}
use Rattle.verdict.proofs.Demand.{largest_cons}

-- ---- the definitions' cases

pub plan_nil : (table : Table) (t : ℕ) → blocking_plan table t [] ≡ 0
unfolding blocking_plan
plan_nil table t = refl

pub plan_cons : (table : Table) (t : ℕ) (s : Step) (plan : List Step) →
    blocking_plan table t (s ∷ plan) ≡ max (blocking_step table t s) (blocking_plan table t plan)
unfolding blocking_plan
plan_cons table t s plan = refl

pub tasks_nil : (table : Table) (t : ℕ) → blocking_tasks table t [] ≡ 0
unfolding blocking_tasks
tasks_nil table t = refl

pub tasks_cons : (table : Table) (t : ℕ) (task : Task) (tasks : List Task) →
    blocking_tasks table t (task ∷ tasks) ≡ max (cond (ltb t task.D) (blocking_plan table t task.plan) 0) (blocking_tasks table t tasks)
unfolding blocking_tasks
tasks_cons table t task tasks = refl

-- a lock of r counts where the floor of r is at most t
pub step_low : (table : Table) (t r l : ℕ) → floor_of table r ≤ t → blocking_step table t (lock r l) ≡ l
step_low table t r l h = rw (le-leb (floor_of table r) t h)

pub step_high : (table : Table) (t r l : ℕ) → t < floor_of table r → blocking_step table t (lock r l) ≡ 0
step_high table t r l h = rw (lt-leb (floor_of table r) t h)

-- ---- from the largest D on

tasks_none : (table : Table) (t : ℕ) (tasks : List Task) → largest tasks ≤ t → blocking_tasks table t tasks ≡ 0
tasks_none table t [] l = tasks_nil table t
tasks_none table t (task ∷ tasks) l =
    let d : max task.D (largest tasks) ≤ t = rw largest_cons at l in
    rw (tasks_cons table t task tasks, le-ltb t task.D (omega arith), tasks_none table t tasks (omega arith))

pub blocking_none : (table : Table) (t : ℕ) → largest table.tasks ≤ t → blocking table t ≡ 0
blocking_none table t l = tasks_none table t table.tasks l

-- ---- a rule for the floors of all that a plan locks

-- Q holds of the floor of each resource that the plan locks
abbrev pub Floors : Table → (ℕ → Type 0) → List Step → Type 0
Floors table Q plan = (r : ℕ) → locks plan r ≡ true → Q (floor_of table r)

floors_first : (table : Table) (Q : ℕ → Type 0) (r l : ℕ) (plan : List Step) → Floors table Q (lock r l ∷ plan) → Q (floor_of table r)
unfolding locks
floors_first table Q r l plan f = f r (or_left (eqb r r) (locks plan r) (eq-eqb r r refl))

floors_rest : (table : Table) (Q : ℕ → Type 0) (s : Step) (plan : List Step) → Floors table Q (s ∷ plan) → Floors table Q plan
unfolding locks
floors_rest table Q s plan f r e = f r (or_right (step_locks s r) (locks plan r) e)

-- ---- before every floor

plan_early : (table : Table) (t : ℕ) (plan : List Step) → Floors table (λ (floor : ℕ). t < floor) plan → blocking_plan table t plan ≡ 0
plan_early table t [] f = plan_nil table t
plan_early table t (lock r l ∷ plan) f =
    rw (plan_cons table t (lock r l) plan, step_high table t r l (floors_first table (λ (floor : ℕ). t < floor) r l plan f), plan_early table t plan (floors_rest table (λ (floor : ℕ). t < floor) (lock r l) plan f))
plan_early table t (unlock ∷ plan) f =
    rw (plan_cons table t unlock plan, plan_early table t plan (floors_rest table (λ (floor : ℕ). t < floor) unlock plan f))

tasks_early : (table : Table) (t : ℕ) (tasks : List Task) → Each (λ (task : Task). Floors table (λ (floor : ℕ). t < floor) task.plan) tasks →
    blocking_tasks table t tasks ≡ 0
tasks_early table t [] h = tasks_nil table t
tasks_early table t (task ∷ tasks) h =
    rw (tasks_cons table t task tasks, plan_early table t task.plan h.0, tasks_early table t tasks h.1) (either (ltb t task.D))
  where
    either : (b : Bool) → max (cond b 0 0) 0 ≡ 0
    either true = refl
    either false = refl

pub blocking_early : (table : Table) (t : ℕ) →
    Each (λ (task : Task). Floors table (λ (floor : ℕ). t < floor) task.plan) table.tasks → blocking table t ≡ 0
blocking_early table t h = tasks_early table t table.tasks h

-- ---- from one t to the next, where the next is no floor

step_falls : (table : Table) (t r l : ℕ) → floor_of table r ≢ suc t → blocking_step table (suc t) (lock r l) ≤ blocking_step table t (lock r l)
step_falls table t r l n = go (leb (floor_of table r) (suc t)) refl
  where
    go : (b : Bool) → leb (floor_of table r) (suc t) ≡ b → blocking_step table (suc t) (lock r l) ≤ blocking_step table t (lock r l)
    go true e =
        let h : floor_of table r ≤ suc t = leb-true (floor_of table r) (suc t) e in
        rw (step_low table (suc t) r l h, step_low table t r l (omega arith)) (le_refl l)
    go false e = rw (step_high table (suc t) r l (leb-false (floor_of table r) (suc t) e)) zero-le

max_mono : {a b c d : ℕ} → a ≤ b → c ≤ d → max a c ≤ max b d
max_mono h k = omega arith

plan_falls : (table : Table) (t : ℕ) (plan : List Step) → Floors table (λ (floor : ℕ). floor ≢ suc t) plan →
    blocking_plan table (suc t) plan ≤ blocking_plan table t plan
plan_falls table t [] f = rw (plan_nil table (suc t)) zero-le
plan_falls table t (lock r l ∷ plan) f =
    rw (plan_cons table (suc t) (lock r l) plan, plan_cons table t (lock r l) plan)
    (max_mono (step_falls table t r l (floors_first table (λ (floor : ℕ). floor ≢ suc t) r l plan f)) (plan_falls table t plan (floors_rest table (λ (floor : ℕ). floor ≢ suc t) (lock r l) plan f)))
plan_falls table t (unlock ∷ plan) f =
    rw (plan_cons table (suc t) unlock plan, plan_cons table t unlock plan)
    (max_mono (le_refl 0) (plan_falls table t plan (floors_rest table (λ (floor : ℕ). floor ≢ suc t) unlock plan f)))

tasks_fall : (table : Table) (t : ℕ) (tasks : List Task) →
    Each (λ (task : Task). Floors table (λ (floor : ℕ). floor ≢ suc t) task.plan) tasks → blocking_tasks table (suc t) tasks ≤ blocking_tasks table t tasks
tasks_fall table t [] h = rw (tasks_nil table (suc t)) zero-le
tasks_fall table t (task ∷ tasks) h =
    rw (tasks_cons table (suc t) task tasks, tasks_cons table t task tasks)
    (max_mono (one (ltb (suc t) task.D) refl) (tasks_fall table t tasks h.1))
  where
    one : (b : Bool) → ltb (suc t) task.D ≡ b →
        cond (ltb (suc t) task.D) (blocking_plan table (suc t) task.plan) 0 ≤ cond (ltb t task.D) (blocking_plan table t task.plan) 0
    one true e =
        let l : suc t < task.D = ltb-true (suc t) task.D e in
        rw (e, lt-ltb t task.D (omega arith)) (plan_falls table t task.plan h.0)
    one false e = rw e zero-le

pub blocking_falls : (table : Table) (t : ℕ) →
    Each (λ (task : Task). Floors table (λ (floor : ℕ). floor ≢ suc t) task.plan) table.tasks → blocking table (suc t) ≤ blocking table t
blocking_falls table t h = tasks_fall table t table.tasks h

-- ---- a bound: no length is above its task's C

step_most : (table : Table) (t r l c : ℕ) → l ≤ c → blocking_step table t (lock r l) ≤ c
step_most table t r l c h = go (leb (floor_of table r) t)
  where
    go : (b : Bool) → cond b l 0 ≤ c
    go true = h
    go false = zero-le

pub plan_most : (table : Table) (t : ℕ) {m c : ℕ} {held : List Section} {plan : List Step} → Nested m c held plan → blocking_plan table t plan ≤ c
plan_most table t ends = rw (plan_nil table t) zero-le
plan_most table t {c = c} (valid.locks {steps = steps} {r = r} {l = l} a n) =
    rw (plan_cons table t (lock r l) steps) (max-le (step_most table t r l c a.most) (plan_most table t n))
plan_most table t (valid.unlocks {steps = steps} n) =
    rw (plan_cons table t unlock steps) (max-le zero-le (plan_most table t n))

tasks_most : (table : Table) (t m : ℕ) (tasks : List Task) → Each (ValidTask m) tasks → blocking_tasks table t tasks ≤ most_ticks
tasks_most table t m [] h = rw (tasks_nil table t) zero-le
tasks_most table t m (task ∷ tasks) h =
    rw (tasks_cons table t task tasks) (max-le (one (ltb t task.D)) (tasks_most table t m tasks h.1))
  where
    one : (b : Bool) → cond b (blocking_plan table t task.plan) 0 ≤ most_ticks
    one true = le_trans (plan_most table t h.0.nested) h.0.C_most
    one false = zero-le

pub blocking_most : (table : Table) (t : ℕ) → Each (ValidTask table.resources) table.tasks → blocking table t ≤ most_ticks
blocking_most table t h = tasks_most table t table.resources table.tasks h
