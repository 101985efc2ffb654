-- The deadline points: the least t that breaks, if there is one, is D + k * T of some task, so a search may look there alone.
-- The idea: at any other t the demand is what it was at t - 1, and the blocking no greater, since a floor is the D of a user. So if t breaks,
-- t - 1 breaks already. And 0 never breaks: no D and no floor is 0.
-- Assumes nothing.
use Prim.Native.Nat.{ℕ, zero, suc, ◌+◌, ◌-◌, ◌*◌, ◌/◌, ◌%◌, ◌≤◌, ◌<◌, suc-le-suc}
use mathlib.Core.Path.{◌≡◌, refl, sym, subst, ap, ap₂, ◌∙◌}
use mathlib.Core.Logic.{◌≢◌, ◌⊎◌, inl, inr}
use mathlib.Core.Bool.{Bool, true, false}
use mathlib.Core.List.{List, [], ◌∷◌}
use native.Mathlib.Nat.{eq-zero-or-pos, div-add-mod', mod-lt, div-eq_of_lt-le, add-mul, one-mul, zero-mod, sub_self, not-le_of_lt}
use native.Mathlib.Omega.{arith}
use lib.Dec.{leb}
use lib.ListN.{length, get_or}
use borrow.Author.Tests.{leb-true, leb-false}
use Rattle.table.specs.Table.{Task, Table, no_task}
use Rattle.table.specs.Valid.{Valid}
use Rattle.table.proofs.Floors.{floor_user}
use Rattle.verdict.specs.Demand.{demand_of, demand_sum, demand}
use Rattle.verdict.specs.Blocking.{blocking}
use Rattle.verdict.specs.Verdict.{Breaks}
use Rattle.numbers.specs.Each.{Each}
use Rattle.verdict.proofs.Each.{Periods, each_all, each_at, each_map, valid_periods}
use Rattle.verdict.proofs.Demand.{demand_early, demand_due, sum_nil, sum_cons, sum_early}
use Rattle.verdict.proofs.Blocking.{Floors, blocking_early, blocking_falls}
use Rattle.verdict.proofs.Periodic.{Keeps}

-- t is a deadline of task `task`, the k-th after the first
pub record PointOf (task : Task) (t : ℕ) : Type 0 where
  pub turn : ℕ
  pub at : t ≡ task.D + turn * task.T

-- t is a deadline point of some tasks
pub record Point (tasks : List Task) (t : ℕ) : Type 0 where
  pub who : ℕ
  pub below : who < length tasks
  pub point : PointOf (get_or tasks who no_task) t

-- ---- one task: the next t is one of its deadlines, or nothing changes there

pub record Quiet (t : ℕ) (task : Task) : Type 0 where
  pub none : task.D ≢ suc t
  pub same : demand_of task (suc t) ≡ demand_of task t

-- a remainder above 0: no new multiple was reached
same_turn : (x k : ℕ) → zero < k → zero < suc x % k → suc x / k ≡ x / k
same_turn x k p r =
    let whole : suc x / k * k + suc x % k ≡ suc x = div-add-mod' (suc x) k in
    let small : suc x % k < k = mod-lt (suc x) p in
    let more : (suc x / k + 1) * k ≡ suc x / k * k + k = add-mul (suc x / k) 1 k ∙ ap (λ (y : ℕ). suc x / k * k + y) (one-mul k) in
    sym (div-eq_of_lt-le k (omega arith) (omega arith))

look : (task : Task) (t : ℕ) → 1 ≤ task.T → PointOf task (suc t) ⊎ Quiet t task
look task t l = go (leb task.D (suc t)) refl
  where
    due : task.D ≤ suc t → ((suc t - task.D) % task.T ≡ 0) ⊎ (zero < (suc t - task.D) % task.T) → PointOf task (suc t) ⊎ Quiet t task
    due d (inl z) =
        inl (record {
          turn = (suc t - task.D) / task.T;
          at =
              let whole : (suc t - task.D) / task.T * task.T + (suc t - task.D) % task.T ≡ suc t - task.D = div-add-mod' (suc t - task.D) task.T in
              omega arith;
        })
    due d (inr r) =
        let other : task.D ≢ suc t =
        λ (e : task.D ≡ suc t).
        let z : (suc t - task.D) % task.T ≡ 0 = ap (λ (x : ℕ). x % task.T) (ap (λ (x : ℕ). suc t - x) e ∙ sub_self (suc t)) ∙ zero-mod task.T in
        omega arith
        in
        let s : suc t - task.D ≡ suc (t - task.D) = omega arith in
        let q : (suc t - task.D) / task.T ≡ (t - task.D) / task.T =
        ap (λ (x : ℕ). x / task.T) s ∙ same_turn (t - task.D) task.T l (subst (λ (x : ℕ). zero < x % task.T) s r)
        in
        inr (record {
          none = other;
          same = rw (demand_due task (suc t) d, demand_due task t (omega arith)) (ap (λ (x : ℕ). task.C * (1 + x)) q);
        })

    go : (b : Bool) → leb task.D (suc t) ≡ b → PointOf task (suc t) ⊎ Quiet t task
    go true e = due (leb-true task.D (suc t) e) (eq-zero-or-pos ((suc t - task.D) % task.T))
    go false e =
        let far : suc t < task.D = leb-false task.D (suc t) e in
        inr (record { none = omega arith; same = demand_early task (suc t) far ∙ sym (demand_early task t (omega arith)) })

-- ---- all of them

pub points_or_quiet : (tasks : List Task) (t : ℕ) → Periods tasks → Point tasks (suc t) ⊎ Each (Quiet t) tasks
points_or_quiet [] t h = inr tt
points_or_quiet (task ∷ tasks) t h = join (look task t h.0) (points_or_quiet tasks t h.1)
  where
    join : PointOf task (suc t) ⊎ Quiet t task → Point tasks (suc t) ⊎ Each (Quiet t) tasks → Point (task ∷ tasks) (suc t) ⊎ Each (Quiet t) (task ∷ tasks)
    join (inl p) rest = inl (record { who = zero; below = omega arith; point = p })
    join (inr q) (inl f) = inl (record { who = suc f.who; below = suc-le-suc f.below; point = f.point })
    join (inr q) (inr qs) = inr (q, qs)

sum_quiet : (tasks : List Task) (t : ℕ) → Each (Quiet t) tasks → demand_sum tasks (suc t) ≡ demand_sum tasks t
sum_quiet [] t h = sum_nil (suc t) ∙ sym (sum_nil t)
sum_quiet (task ∷ tasks) t h =
    sum_cons task tasks (suc t) ∙ ap₂ (λ (x y : ℕ). x + y) h.0.same (sum_quiet tasks t h.1) ∙ sym (sum_cons task tasks t)

-- a rule that holds of each D holds of each floor that some task locks
pub floors_of : (table : Table) (Q : ℕ → Type 0) → Each (λ (task : Task). Q task.D) table.tasks →
    Each (λ (task : Task). Floors table Q task.plan) table.tasks
floors_of table Q h = each_all (λ (task : Task). Floors table Q task.plan) table.tasks at
  where
    at : (i : ℕ) → i < length table.tasks → Floors table Q (get_or table.tasks i no_task).plan
    at i l r e =
        let (j, below, user, floor) = floor_user table i r l e in
        subst Q (sym floor) (each_at (λ (task : Task). Q task.D) table.tasks h j below)

-- where no task has a deadline, nothing new is asked for
pub quiet_falls : (table : Table) (t : ℕ) → Each (Quiet t) table.tasks →
    demand table (suc t) + blocking table (suc t) ≤ demand table t + blocking table t
quiet_falls table t h =
    let d : demand table (suc t) ≡ demand table t = sum_quiet table.tasks t h in
    let b : blocking table (suc t) ≤ blocking table t =
    blocking_falls table t (floors_of table (λ (d : ℕ). d ≢ suc t) (each_map (Quiet t) (λ (task : Task). task.D ≢ suc t) table.tasks (λ task q. q.none) h))
    in
    omega arith

-- 0 never breaks
pub keeps_start : (table : Table) → Valid table → Keeps table 0
keeps_start table v =
    let some : Each (λ (task : Task). zero < task.D) table.tasks =
    each_all (λ (task : Task). zero < task.D) table.tasks (λ i l. (v.each i l).D_least)
    in
    let d : demand table 0 ≡ 0 = sum_early table.tasks 0 some in
    let b : blocking table 0 ≡ 0 = blocking_early table 0 (floors_of table (λ (d : ℕ). zero < d) some) in
    omega arith

-- ---- the points are enough

-- the least break, if there is one, is a deadline point
pub least_point : (table : Table) → Valid table → (t : ℕ) → Breaks table t → ((s : ℕ) → s < t → Keeps table s) → Point table.tasks t
least_point table v zero broken before = absurd (not-le_of_lt broken (keeps_start table v))
least_point table v (suc t) broken before = go (points_or_quiet table.tasks t (valid_periods table v))
  where
    go : Point table.tasks (suc t) ⊎ Each (Quiet t) table.tasks → Point table.tasks (suc t)
    go (inl p) = p
    go (inr q) =
        let k : Keeps table t = before t (omega arith) in
        absurd (omega (arith, quiet_falls table t q))

-- if no deadline point up to n breaks, nothing up to n does
pub points_enough : (table : Table) → Valid table → (n : ℕ) → ((t : ℕ) → t ≤ n → Point table.tasks t → Keeps table t) →
    (t : ℕ) → t ≤ n → Keeps table t
points_enough table v n h zero l = keeps_start table v
points_enough table v n h (suc t) l = go (points_or_quiet table.tasks t (valid_periods table v)) (points_enough table v n h t (omega arith))
  where
    go : Point table.tasks (suc t) ⊎ Each (Quiet t) table.tasks → Keeps table t → Keeps table (suc t)
    go (inl p) k = h (suc t) l p
    go (inr q) k = omega (arith, quiet_falls table t q)
