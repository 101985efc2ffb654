-- The demand h(t): it never falls as t grows; from the largest D on it repeats, with the load added, after every common multiple of the periods;
-- before every D it is 0; and a bound for it. Each is shown of one task, and then of the sum.
-- Assumes nothing.
use Prim.Native.Nat.{ℕ, zero, ◌+◌, ◌-◌, ◌*◌, ◌/◌, ◌≤◌, ◌<◌, ◌∣◌, zero-le, max}
use mathlib.Core.Path.{◌≡◌, refl, sym, ap, ◌∙◌}
use mathlib.Core.Logic.{⊎_elim}
use mathlib.Core.Bool.{Bool, true, false}
use mathlib.Core.List.{List, [], ◌∷◌}
use native.Mathlib.Nat.{eq-zero-or-pos, div-zero, le_refl, le_trans, le-div_iff_mul-le, div-mul-le_self, mul-le-mul_left, mul-le-mul, add-le-add, div-le_self, add-mul-div_right, div-mul_cancel, mul-div_assoc, mul-add, add_assoc, max-le}
use native.Mathlib.Omega.{arith}
use lib.Dec.{leb}
use lib.ListN.{length}
use borrow.Author.Tests.{lt-leb, le-leb, leb-true, leb-false}
use Rattle.table.specs.Limits.{most_ticks}
use Rattle.table.specs.Table.{Task, Table}
use Rattle.table.specs.Valid.{ValidTask}
use Rattle.verdict.specs.Demand.{demand_of, demand_sum, demand}
use Rattle.verdict.specs.Multiple.{multiple}
use Rattle.verdict.specs.Verdict.{load_of, load, largest}
use Rattle.numbers.specs.Each.{Each}
use Rattle.verdict.proofs.Each.{Periods}
use Rattle.verdict.proofs.Multiple.{Multiples, multiple_multiples}

pub div_mono : (a b k : ℕ) → a ≤ b → a / k ≤ b / k
div_mono a b k l = ⊎_elim none some (eq-zero-or-pos k)
  where
    none : k ≡ 0 → a / k ≤ b / k
    none e = rw (e, div-zero a, div-zero b) (le_refl 0)

    some : zero < k → a / k ≤ b / k
    some p = (le-div_iff_mul-le p).1 (le_trans (div-mul-le_self a k) l)

-- ---- one task

-- before its first deadline
pub demand_early : (task : Task) (t : ℕ) → t < task.D → demand_of task t ≡ 0
demand_early task t l = rw (lt-leb task.D t l)

-- from its first deadline on
pub demand_due : (task : Task) (t : ℕ) → task.D ≤ t → demand_of task t ≡ task.C * (1 + (t - task.D) / task.T)
demand_due task t l = rw (le-leb task.D t l)

rises_one : (task : Task) (s t : ℕ) → s ≤ t → demand_of task s ≤ demand_of task t
rises_one task s t l = go (leb task.D s) refl
  where
    go : (b : Bool) → leb task.D s ≡ b → demand_of task s ≤ demand_of task t
    go false e = rw (demand_early task s (leb-false task.D s e)) zero-le
    go true e =
        let d : task.D ≤ s = leb-true task.D s e in
        rw (demand_due task s d, demand_due task t (omega arith))
        (mul-le-mul_left task.C (omega (arith, div_mono (s - task.D) (t - task.D) task.T (omega arith))))

repeats_one : (task : Task) (p t : ℕ) → 1 ≤ task.T → task.T ∣ p → task.D ≤ t →
    demand_of task (t + p) ≡ demand_of task t + task.C * p / task.T
repeats_one task p t l d h =
    let q : (t + p - task.D) / task.T ≡ (t - task.D) / task.T + p / task.T =
    ap (λ (x : ℕ). x / task.T) (same ∙ ap (λ (x : ℕ). t - task.D + x) (sym (div-mul_cancel task.T d)))
    ∙ add-mul-div_right (t - task.D) (p / task.T) l in
    rw (demand_due task (t + p) (omega arith), demand_due task t h, mul-div_assoc task.T {n = p} task.C d)
    (ap (λ (x : ℕ). task.C * (1 + x)) q
    ∙ ap (λ (x : ℕ). task.C * x) (sym (add_assoc 1 ((t - task.D) / task.T) (p / task.T)))
    ∙ mul-add task.C (1 + (t - task.D) / task.T) (p / task.T))
  where
    same : t + p - task.D ≡ t - task.D + p
    same = omega arith

pub demand_most : (m : ℕ) (task : Task) (t : ℕ) → ValidTask m task → demand_of task t ≤ most_ticks * (1 + t)
demand_most m task t v = go (leb task.D t) refl
  where
    go : (b : Bool) → leb task.D t ≡ b → demand_of task t ≤ most_ticks * (1 + t)
    go false e = rw (demand_early task t (leb-false task.D t e)) zero-le
    go true e =
        rw (demand_due task t (leb-true task.D t e))
        (mul-le-mul v.C_most (omega (arith, div-le_self (t - task.D) task.T)))

-- ---- the sum

pub sum_nil : (t : ℕ) → demand_sum [] t ≡ 0
unfolding demand_sum
sum_nil t = refl

pub sum_cons : (task : Task) (tasks : List Task) (t : ℕ) → demand_sum (task ∷ tasks) t ≡ demand_of task t + demand_sum tasks t
unfolding demand_sum
sum_cons task tasks t = refl

pub load_nil : (p : ℕ) → load_of p [] ≡ 0
unfolding load_of
load_nil p = refl

pub load_cons : (p : ℕ) (task : Task) (tasks : List Task) → load_of p (task ∷ tasks) ≡ task.C * p / task.T + load_of p tasks
unfolding load_of
load_cons p task tasks = refl

pub largest_cons : (task : Task) (tasks : List Task) → largest (task ∷ tasks) ≡ max task.D (largest tasks)
unfolding largest
largest_cons task tasks = refl

-- no D is above the limit
pub largest_most : (m : ℕ) (tasks : List Task) → Each (ValidTask m) tasks → largest tasks ≤ most_ticks
unfolding largest
largest_most m [] h = zero-le
largest_most m (task ∷ tasks) h = max-le h.0.D_most (largest_most m tasks h.1)

-- it never falls
pub sum_rises : (tasks : List Task) (s t : ℕ) → s ≤ t → demand_sum tasks s ≤ demand_sum tasks t
sum_rises [] s t l = rw (sum_nil s, sum_nil t) zero-le
sum_rises (task ∷ tasks) s t l =
    rw (sum_cons task tasks s, sum_cons task tasks t) (add-le-add (rises_one task s t l) (sum_rises tasks s t l))

-- it repeats, from the largest D on, with the load added
pub sum_repeats : (tasks : List Task) (p t : ℕ) → Periods tasks → Multiples tasks p → largest tasks ≤ t →
    demand_sum tasks (t + p) ≡ demand_sum tasks t + load_of p tasks
sum_repeats [] p t h ms l = rw (sum_nil (t + p), sum_nil t, load_nil p)
sum_repeats (task ∷ tasks) p t h ms l =
    let d : max task.D (largest tasks) ≤ t = rw largest_cons at l in
    let one : demand_of task (t + p) ≡ demand_of task t + task.C * p / task.T = repeats_one task p t h.0 ms.0 (omega arith) in
    let rest : demand_sum tasks (t + p) ≡ demand_sum tasks t + load_of p tasks = sum_repeats tasks p t h.1 ms.1 (omega arith) in
    rw (sum_cons task tasks (t + p), sum_cons task tasks t, load_cons p task tasks) (omega arith)

-- before every D nothing is asked for
pub sum_early : (tasks : List Task) (t : ℕ) → Each (λ (task : Task). t < task.D) tasks → demand_sum tasks t ≡ 0
sum_early [] t h = sum_nil t
sum_early (task ∷ tasks) t h = rw (sum_cons task tasks t, demand_early task t h.0, sum_early tasks t h.1)

-- a bound: at most C, and no more than 1 + t times, for each task
pub sum_most : (m : ℕ) (tasks : List Task) (t : ℕ) → Each (ValidTask m) tasks → demand_sum tasks t ≤ length tasks * (most_ticks * (1 + t))
sum_most m [] t h = rw (sum_nil t) zero-le
sum_most m (task ∷ tasks) t h =
    rw (sum_cons task tasks t) (omega (arith, demand_most m task t h.0, sum_most m tasks t h.1))

-- ---- of a table

pub demand_rises : (table : Table) (s t : ℕ) → s ≤ t → demand table s ≤ demand table t
demand_rises table s t l = sum_rises table.tasks s t l

pub demand_repeats : (table : Table) (t : ℕ) → Periods table.tasks → largest table.tasks ≤ t →
    demand table (t + multiple table) ≡ demand table t + load table
demand_repeats table t h l = sum_repeats table.tasks (multiple table) t h (multiple_multiples table) l
