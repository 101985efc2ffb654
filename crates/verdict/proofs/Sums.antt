-- What the chains of `work` give, sums over the tasks' times, is what the definitions have of the tasks.
-- Assumes nothing.
use Prim.Native.Nat.{ℕ, ◌+◌, ◌*◌, ◌/◌}
use mathlib.Core.Path.{◌≡◌, refl, sym, ap, ◌∙◌}
use mathlib.Core.List.{List, [], ◌∷◌, map}
use Rattle.std.specs.List.{sum_by}
use Rattle.std.proofs.lemmas.List.Sums.{sum_by-cons}
use Rattle.verdict.specs.Demand.{demand_of, demand_sum}
use Rattle.verdict.specs.Verdict.{load_of}
use Rattle.verdict.specs.Times.{timed}
use Rattle.verdict.specs.declared.times.Times.{Times}

pub demand_of_times : (t : ℕ) (times : List Times) → demand_sum (map timed times) t ≡ sum_by (λ (x : Times). demand_of (timed x) t) times
unfolding demand_sum
demand_of_times t [] = refl
demand_of_times t (x ∷ times) =
    ap (λ (n : ℕ). demand_of (timed x) t + n) (demand_of_times t times) ∙ sym (sum_by-cons (λ (y : Times). demand_of (timed y) t) x times)

pub load_of_times : (p : ℕ) (times : List Times) → load_of p (map timed times) ≡ sum_by (λ (x : Times). x.cost * p / x.period) times
unfolding load_of
load_of_times p [] = refl
load_of_times p (x ∷ times) =
    ap (λ (n : ℕ). x.cost * p / x.period + n) (load_of_times p times) ∙ sym (sum_by-cons (λ (y : Times). y.cost * p / y.period) x times)
