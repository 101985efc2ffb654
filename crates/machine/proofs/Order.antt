-- What "The running job is the ready one with the earliest active deadline" (document 01) comes to, for every value of what is kept: nobody runs
-- exactly where no job is ready, who runs is ready, and it is before every other ready job in the order by active deadline and then release number.
-- The idea: after k rows the best so far is best among the rows below k (`Best`), and one more row keeps that. Assumes nothing.
use Prim.Native.Nat.{ℕ, zero, suc, ◌+◌, ◌<◌}
use native.Mathlib.Nat.{le_refl, le_of_suc-le-suc, eq-or-lt_of_le, not-suc-le-zero}
use native.Mathlib.Omega.{arith}
use mathlib.Core.Path.{◌≡◌, refl, sym, ap, subst, ◌∙◌}
use mathlib.Core.Logic.{◌≢◌, inl, inr}
use mathlib.Core.Bool.{Bool, true, false, true≢false, cond, ◌&&◌}
use lib.Dec.{eqb}
use borrow.Author.Tests.{eqb-true, eqb-false}
use Rattle.std.specs.Prelude.{Option, Some, None}
use Rattle.sets.specs.Member.{has}
use Rattle.table.specs.Limits.{most_tasks}
use Rattle.machine.specs.Order.{row_of, Earlier, is_earlier, better, best_from, who_runs}
use Rattle.machine.specs.declared.Job.{Job}
use Rattle.machine.specs.declared.Kept.{Kept}
use Rattle.machine.proofs.Sooner.{sooner_test, test_sooner, sooner_trans, sooner_not, Ordered, before, itself, after, ordered}

-- Of two jobs with different release numbers one is before the other.
either_earlier : (x y : Job) → y.number ≢ x.number → (Earlier y x → ⊥) → Earlier x y
either_earlier x y differ none = go (ordered x.active x.number y.active y.number)
  where
    go : Ordered x.active x.number y.active y.number → Earlier x y
    go (before h) = h
    go (itself e) = absurd (differ (sym e))
    go (after h) = absurd (none h)

-- ---- the best of the rows below k

pub record BestRow (kept : Kept) (k i : ℕ) : Type 0 where
  pub below : i < k
  pub ready : has kept.ready i ≡ true
  pub least : (j : ℕ) → j < k → has kept.ready j ≡ true → Earlier (row_of kept j) (row_of kept i) → ⊥

abbrev pub Best : Kept → ℕ → Option ℕ → Type 0
Best kept k None = (j : ℕ) → j < k → has kept.ready j ≡ false
Best kept k (Some i) = BestRow kept k i

module _ (kept : Kept) (k : ℕ) where
  first_best : Best kept k None → has kept.ready k ≡ true → BestRow kept (suc k) k
  first_best none r = record {
    below = omega arith;
    ready = r;
    least = λ j l q. elim (eq-or-lt_of_le (le_of_suc-le-suc l)) [
      | inr h ↦ λ (b : Earlier (row_of kept j) (row_of kept k)). absurd (true≢false (sym q ∙ none j h))
      | inl e ↦ λ (b : Earlier (row_of kept j) (row_of kept k)). sooner_not (le_refl _) (rw e at b)
    ];
  }

  none_more : Best kept k None → has kept.ready k ≡ false → Best kept (suc k) None
  none_more none r j l = elim (eq-or-lt_of_le (le_of_suc-le-suc l)) [ inr h ↦ none j h | inl e ↦ rw e r ]

  new_best : (b : ℕ) → BestRow kept k b → has kept.ready k ≡ true → Earlier (row_of kept k) (row_of kept b) → BestRow kept (suc k) k
  new_best b best r ahead = record {
    below = omega arith;
    ready = r;
    least = λ j l q. elim (eq-or-lt_of_le (le_of_suc-le-suc l)) [
      | inr h ↦ λ (f : Earlier (row_of kept j) (row_of kept k)). best.least j h q (sooner_trans f ahead)
      | inl e ↦ λ (f : Earlier (row_of kept j) (row_of kept k)). sooner_not (le_refl _) (rw e at f)
    ];
  }

  old_best : (b : ℕ) → BestRow kept k b → (has kept.ready k ≡ true → Earlier (row_of kept k) (row_of kept b) → ⊥) → BestRow kept (suc k) b
  old_best b best no-better = record {
    below = let l : b < k = best.below in omega arith;
    ready = best.ready;
    least = λ j l q. elim (eq-or-lt_of_le (le_of_suc-le-suc l)) [
      | inr h ↦ λ (f : Earlier (row_of kept j) (row_of kept b)). best.least j h q f
      | inl e ↦ λ (f : Earlier (row_of kept j) (row_of kept b)). no-better (rw e at q) (rw e at f)
    ];
  }

  best_more : (w : Option ℕ) → Best kept k w → Best kept (suc k) (better kept k w)
  best_more None best = go (has kept.ready k) refl
    where
      go : (r : Bool) → has kept.ready k ≡ r → Best kept (suc k) (cond r (Some k) None)
      go true e = first_best best e
      go false e = none_more best e
  best_more (Some b) best = go (has kept.ready k) refl (is_earlier (row_of kept k) (row_of kept b)) refl
    where
      go : (r : Bool) → has kept.ready k ≡ r → (a : Bool) → is_earlier (row_of kept k) (row_of kept b) ≡ a →
          Best kept (suc k) (cond (r && a) (Some k) (Some b))
      go true e true p = new_best b best e (sooner_test _ _ _ _ p)
      go true e false p = old_best b best (λ q f. true≢false (sym (test_sooner f) ∙ p))
      go false e a p = old_best b best (λ q f. true≢false (sym q ∙ e))

best_all : (left i : ℕ) (kept : Kept) (w : Option ℕ) → Best kept i w → Best kept (i + left) (best_from left i kept w)
unfolding best_from
best_all zero i kept w best = subst (λ (k : ℕ). Best kept k w) (omega arith) best
best_all (suc left) i kept w best =
    subst (λ (k : ℕ). Best kept k (best_from left (suc i) kept (better kept i w))) (omega arith)
    (best_all left (suc i) kept (better kept i w) (best_more kept i w best))

pub best_of : (kept : Kept) → Best kept most_tasks (who_runs kept)
unfolding who_runs
best_of kept = best_all most_tasks zero kept None (λ j l. absurd (not-suc-le-zero l))

-- ---- the laws

best_row : (kept : Kept) (i : ℕ) → who_runs kept ≡ Some i → BestRow kept most_tasks i
best_row kept i e = subst (λ (w : Option ℕ). Best kept most_tasks w) e (best_of kept)

-- Nobody runs exactly where no job is ready.
pub who_nobody : (kept : Kept) → who_runs kept ≡ None → (j : ℕ) → j < most_tasks → has kept.ready j ≡ false
who_nobody kept e = subst (λ (w : Option ℕ). Best kept most_tasks w) e (best_of kept)

pub nobody_who : (kept : Kept) → ((j : ℕ) → j < most_tasks → has kept.ready j ≡ false) → who_runs kept ≡ None
nobody_who kept none = go (who_runs kept) (best_of kept)
  where
    go : (w : Option ℕ) → Best kept most_tasks w → w ≡ None
    go None best = refl
    go (Some i) best = absurd (true≢false (sym best.ready ∙ none i best.below))

-- Who runs is a ready job of one of the sixteen rows.
pub who_ready : (kept : Kept) (i : ℕ) → who_runs kept ≡ Some i → (i < most_tasks) × (has kept.ready i ≡ true)
who_ready kept i e = ((best_row kept i e).below, (best_row kept i e).ready)

-- No ready job is before the one that runs.
pub who_first : (kept : Kept) (i j : ℕ) → who_runs kept ≡ Some i → j < most_tasks → has kept.ready j ≡ true → Earlier (row_of kept j) (row_of kept i) → ⊥
who_first kept i j e = (best_row kept i e).least j

-- It is before every other ready job: all whose release number is another.
pub who_least : (kept : Kept) (i j : ℕ) → who_runs kept ≡ Some i → j < most_tasks → has kept.ready j ≡ true →
    (row_of kept j).number ≢ (row_of kept i).number → Earlier (row_of kept i) (row_of kept j)
who_least kept i j e l r differ = either_earlier (row_of kept i) (row_of kept j) differ (who_first kept i j e l r)

-- And a ready job that is before every other ready one is who runs.
pub who_is : (kept : Kept) (i : ℕ) → i < most_tasks → has kept.ready i ≡ true →
    ((j : ℕ) → j < most_tasks → has kept.ready j ≡ true → j ≢ i → Earlier (row_of kept i) (row_of kept j)) → who_runs kept ≡ Some i
who_is kept i l r least = go (who_runs kept) (best_of kept)
  where
    same : (b : ℕ) → BestRow kept most_tasks b → (t : Bool) → eqb b i ≡ t → b ≡ i
    same b best true e = eqb-true b i e
    same b best false e = absurd (best.least i l r (least b best.below best.ready (eqb-false b i e)))

    go : (w : Option ℕ) → Best kept most_tasks w → w ≡ Some i
    go None best = absurd (true≢false (sym r ∙ best i l))
    go (Some b) best = ap Some (same b best (eqb b i) refl)
