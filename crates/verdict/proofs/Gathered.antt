-- What `times::Times::gather` has read before task i: the times of the tasks before it.
-- Assumes nothing.
use Prim.Native.Nat.{ℕ, ◌+◌, ◌<◌}
use mathlib.Core.Path.{◌≡◌, sym, subst, ap, ap₂, ◌∙◌}
use mathlib.Core.List.{List, [], ◌∷◌, ◌++◌, map}
use native.Mathlib.Numerals.{add-one}
use lib.ListN.{length, get_or, set, take, length-set}
use lib.Seq.{take-suc, take-length}
use Rattle.std.proofs.lemmas.List.{map-append, take_more_set}
use Rattle.table.specs.Limits.{most_tasks}
use Rattle.table.specs.Table.{Task, no_task}
use Rattle.verdict.specs.Times.{timed, without_plan, AreTimes}
use Rattle.verdict.specs.declared.times.Times.{Times}

pub record Gathered (tasks : List Task) (all : List Times) (i : ℕ) : Type 0 where
  pub room : length all ≡ most_tasks
  pub each : map timed (take i all) ≡ map without_plan (take i tasks)

-- one more
pub gathered_more : {tasks : List Task} {all : List Times} {i : ℕ} (x : Times) → Gathered tasks all i → i < most_tasks → i < length tasks →
    timed x ≡ without_plan (get_or tasks i no_task) → Gathered tasks (set all i x) (i + 1)
gathered_more {tasks} {all} {i} x g l m e = record {
  room = length-set all i x ∙ g.room;
  each =
      ap (map timed) (take_more_set all i x (subst (λ (k : ℕ). i < k) (sym g.room) l)) ∙ map-append timed (take i all) (x ∷ [])
      ∙ ap₂ (λ (a b : List Task). a ++ b) g.each (ap (λ (task : Task). task ∷ []) e)
      ∙ sym (map-append without_plan (take i tasks) (get_or tasks i no_task ∷ []))
      ∙ ap (map without_plan) (sym (take-suc tasks i no_task m) ∙ ap (λ (k : ℕ). take k tasks) (sym (add-one i)));
}

-- all of them
pub gathered_all : {tasks : List Task} {all : List Times} {i : ℕ} → Gathered tasks all i → i ≡ length tasks → AreTimes tasks (take (length tasks) all)
gathered_all {tasks} {all} g e = record {
  each = ap (λ (k : ℕ). map timed (take k all)) (sym e) ∙ g.each ∙ ap (map without_plan) (ap (λ (k : ℕ). take k tasks) e ∙ take-length tasks);
}
