-- The greatest of what a chain yields, or 0 where it yields nothing: `max` and `unwrap_or(0)` at its end. It is the largest D of the tasks' times, and the
-- greatest over a plan's steps.
-- Assumes nothing.
use Prim.Native.Nat.{ℕ, zero, suc, ◌+◌, max}
use mathlib.Core.Path.{◌≡◌, refl, sym, ap, ◌∙◌}
use mathlib.Core.List.{List, [], ◌∷◌, map}
use native.Mathlib.Numerals.{add-one}
use native.Mathlib.Omega.{arith}
use lib.ListN.{length, get_or, drop, drop_of_length-le}
use lib.Seq.{drop-cons}
use Rattle.std.proofs.Common.{Option}
use Rattle.std.proofs.lemmas.Iterator.{YieldsList}
use Rattle.std.proofs.lemmas.Iterator.Adapters.{option_map_id}
use Rattle.std.proofs.lemmas.Iterator.Consumers.{max_from_yields_List}
use Rattle.std.specs.Iterator.{PicksByCmp}
use Rattle.std.specs.List.{fold, reduce, range_with_len}
use Rattle.std.specs.Option.{unwrap_or, option_map}
use Rattle.std.specs.Ordering.{nat_cmp, max_by_ordering}
use Rattle.table.specs.Table.{Step, unlock, Table}
use Rattle.verdict.specs.Blocking.{blocking_step, blocking_plan}
use Rattle.verdict.specs.Times.{timed}
use Rattle.verdict.specs.Verdict.{largest}
use Rattle.verdict.specs.declared.times.Times.{Times}
use Rattle.verdict.proofs.Blocking.{plan_nil, plan_cons}

reduced : (xs : List ℕ) → unwrap_or (reduce max xs) 0 ≡ fold max 0 xs
reduced [] = refl
reduced (x ∷ xs) = ap (λ (a : ℕ). fold max a xs) (omega arith)

pub greatest : {S : Type 0} {steps : S → Option ℕ → S → Type 0} (s : S) (r : Option ℕ) {m : ℕ} (xs : List ℕ) → m ≡ unwrap_or r 0 →
    PicksByCmp steps max_by_ordering nat_cmp s r → YieldsList steps (λ (x : ℕ). x) s xs → m ≡ fold max 0 xs
greatest s r xs said picks yields =
    let most : option_map (λ (x : ℕ). x) r ≡ reduce max xs = max_from_yields_List s r picks yields in
    said ∙ ap (λ (o : Option ℕ). unwrap_or o 0) (sym (option_map_id r) ∙ most) ∙ reduced xs

-- ---- the largest D

largest_from : (a : ℕ) (times : List Times) → fold max a (map (λ (x : Times). x.deadline) times) ≡ max a (largest (map timed times))
unfolding largest
largest_from a [] = omega arith
largest_from a (x ∷ times) = omega (arith, largest_from (max a x.deadline) times)

pub largest_of_times : (times : List Times) → fold max 0 (map (λ (x : Times). x.deadline) times) ≡ largest (map timed times)
largest_of_times times = omega (arith, largest_from 0 times)

-- ---- the greatest over a plan's steps

-- what step k of a plan has
abbrev pub step_at : Table → ℕ → List Step → ℕ → ℕ
step_at table t plan k = blocking_step table t (get_or plan k unlock)

plan_from : (table : Table) (t : ℕ) (plan : List Step) (a k n : ℕ) → k + n ≡ length plan →
    fold max a (map (step_at table t plan) (range_with_len k n)) ≡ max a (blocking_plan table t (drop k plan))
plan_from table t plan a k zero e =
    let none : blocking_plan table t (drop k plan) ≡ 0 = ap (blocking_plan table t) (drop_of_length-le plan (omega arith)) ∙ plan_nil table t in
    omega arith
plan_from table t plan a k (suc n) e =
    let off : blocking_plan table t (drop k plan) ≡ max (step_at table t plan k) (blocking_plan table t (drop (k + 1) plan)) =
    ap (blocking_plan table t) (drop-cons plan k unlock (omega arith) ∙ ap (λ (x : ℕ). get_or plan k unlock ∷ drop x plan) (sym (add-one k)))
    ∙ plan_cons table t (get_or plan k unlock) (drop (k + 1) plan) in
    omega (arith, plan_from table t plan (max a (step_at table t plan k)) (k + 1) n (omega arith))

pub plan_greatest : (table : Table) (t : ℕ) (plan : List Step) →
    fold max 0 (map (step_at table t plan) (range_with_len 0 (length plan))) ≡ blocking_plan table t plan
plan_greatest table t plan = omega (arith, plan_from table t plan 0 0 (length plan) (omega arith))
