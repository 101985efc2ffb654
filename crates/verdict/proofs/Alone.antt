-- P, HEAVY's sum, h(t) and the largest D ask each task for T, D and C alone: of the tasks' times they are what they are of the tasks.
-- Assumes nothing.
use Prim.Native.Nat.{ℕ, ◌+◌, ◌*◌, ◌/◌, max}
use mathlib.Core.Path.{◌≡◌, refl, ap, ◌∙◌}
use mathlib.Core.List.{List, [], ◌∷◌, map}
use Rattle.table.specs.Table.{Task}
use Rattle.verdict.specs.Demand.{demand_of, demand_sum}
use Rattle.verdict.specs.Multiple.{multiple_of, multiple_with}
use Rattle.verdict.specs.Verdict.{load_of, largest}
use Rattle.verdict.specs.Times.{timed, without_plan, AreTimes}
use Rattle.verdict.specs.declared.times.Times.{Times}

multiple_alone : (p : ℕ) (tasks : List Task) → multiple_with p (map without_plan tasks) ≡ multiple_with p tasks
unfolding multiple_with
multiple_alone p [] = refl
multiple_alone p (task ∷ tasks) = multiple_alone (multiple_of p task.T) tasks

load_alone : (p : ℕ) (tasks : List Task) → load_of p (map without_plan tasks) ≡ load_of p tasks
unfolding load_of
load_alone p [] = refl
load_alone p (task ∷ tasks) = ap (λ (n : ℕ). task.C * p / task.T + n) (load_alone p tasks)

demand_alone : (t : ℕ) (tasks : List Task) → demand_sum (map without_plan tasks) t ≡ demand_sum tasks t
unfolding demand_sum
demand_alone t [] = refl
demand_alone t (task ∷ tasks) = ap (λ (n : ℕ). demand_of task t + n) (demand_alone t tasks)

largest_alone : (tasks : List Task) → largest (map without_plan tasks) ≡ largest tasks
unfolding largest
largest_alone [] = refl
largest_alone (task ∷ tasks) = ap (λ (n : ℕ). max task.D n) (largest_alone tasks)

-- ---- of the times

module _ {tasks : List Task} {times : List Times} (are : AreTimes tasks times) where
  pub multiple_is : (p : ℕ) → multiple_with p (map timed times) ≡ multiple_with p tasks
  multiple_is p = ap (multiple_with p) are.each ∙ multiple_alone p tasks

  pub load_is : (p : ℕ) → load_of p (map timed times) ≡ load_of p tasks
  load_is p = ap (load_of p) are.each ∙ load_alone p tasks

  pub demand_is : (t : ℕ) → demand_sum (map timed times) t ≡ demand_sum tasks t
  demand_is t = ap (λ (xs : List Task). demand_sum xs t) are.each ∙ demand_alone t tasks

  pub largest_is : largest (map timed times) ≡ largest tasks
  largest_is = ap largest are.each ∙ largest_alone tasks
