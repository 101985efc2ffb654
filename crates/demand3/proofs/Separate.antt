-- What is particular to floors in demand 3's first part. Sep: of two ready jobs, for every section that the other holds, either its entry value with the
-- other's number is before this job's active deadline and number, or this job's D is below the section's floor, and then it is no user of it. That every move
-- keeps it: SeparateKept. Assumes nothing.
use Prim.Native.Nat.{ℕ, zero, ◌+◌, ◌≤◌, ◌<◌}
use mathlib.Core.Path.{◌≡◌, refl, sym, ◌∙◌}
use mathlib.Core.Logic.{◌≢◌, ◌⊎◌, inl, inr}
use mathlib.Core.Bool.{Bool, true, false, true≢false}
use native.Mathlib.Nat.{lt_of_lt_of_le}
use native.Mathlib.Omega.{arith}
use lib.Dec.{leb}
use borrow.Author.Tests.{leb-true, leb-false}
use Rattle.std.specs.Prelude.{Option, Some, None}
use Rattle.sets.specs.Member.{has}
use Rattle.sets.proofs.Digit.{has_zero, same_everywhere}
use Rattle.table.specs.Limits.{most_tasks}
use Rattle.table.specs.Table.{Table, task_of}
use Rattle.table.specs.Held.{Section}
use Rattle.table.specs.Floor.{floor_of}
use Rattle.table.specs.Valid.{Valid}
use Rattle.machine.specs.Order.{Sooner, by_release, Earlier, row_of, who_runs}
use Rattle.machine.specs.Machine.{held_of}
use Rattle.machine.specs.declared.Job.{Job}
use Rattle.machine.specs.declared.Kept.{Kept}
use Rattle.machine.proofs.Order.{who_ready, who_least, who_nobody}
use Rattle.machine.proofs.Sooner.{sooner_one_way, sooner_lower, sooner_higher}
use Rattle.machine.proofs.Rows.{held_in}
use Rattle.runs.proofs.Stack.{Entry, entry_least}
use Rattle.runs.proofs.Shape.{Shape}

-- ---- the invariant

-- Job y, the other, against job x: each section that y holds is entered before x's active deadline, or is none that x uses.
pub record Separate (table : Table) (x : ℕ) (job : Job) (y : ℕ) (other : Job) : Type 0 where
  pub entry : {s : Section} {v : ℕ} → Entry other.saved (held_in table y other) other.active s v →
      Sooner v other.number job.active job.number ⊎ ((task_of table x).D < floor_of table s.resource)

pub record Sep (table : Table) (kept : Kept) : Type 0 where
  pub pair : (x y : ℕ) → x ≢ y → has kept.ready x ≡ true → has kept.ready y ≡ true → Separate table x (row_of kept x) y (row_of kept y)

-- A section's entry value is at most the clock plus its floor: with a floor of at most D it comes before the deadline of a job that is released now.
pub floor_or_first : (v number clock time d floor count : ℕ) → v ≤ clock + floor → clock ≤ time → number < count →
    Sooner v number (time + d) count ⊎ (d < floor)
floor_or_first v number clock time d floor count most back below = go (leb floor d) refl
  where
    go : (b : Bool) → leb floor d ≡ b → Sooner v number (time + d) count ⊎ (d < floor)
    go true e = let low : floor ≤ d = leb-true _ _ e in inl (sooner_higher (omega arith) (by_release refl below))
    go false e = inr (leb-false _ _ e)

-- ---- the running job is least

module _ {table : Table} (valid : Valid table) {kept : Kept} (shape : Shape table kept) where
  ready_row : (j : ℕ) → has kept.ready j ≡ true → j < most_tasks
  ready_row j h = lt_of_lt_of_le (shape.going j h).below valid.tasks_most

  pub runs_first : (i j : ℕ) → who_runs kept ≡ Some i → j ≢ i → has kept.ready j ≡ true →
      Earlier (row_of kept i) (row_of kept j)
  runs_first i j e n h = who_least kept i j e (ready_row j h) h (shape.numbers j i n h (who_ready kept i e).1)

  -- So no section of another was entered before its active deadline.
  pub runs_before : (i j : ℕ) → who_runs kept ≡ Some i → j ≢ i → has kept.ready j ≡ true → {s : Section} {v : ℕ} →
      Entry (row_of kept j).saved (held_of table kept j) (row_of kept j).active s v →
      Sooner v (row_of kept j).number (row_of kept i).active (row_of kept i).number → ⊥
  runs_before i j e n h entered before =
      sooner_one_way (runs_first i j e n h) (sooner_lower (entry_least (shape.going j h).stack entered) before)

  -- Somebody runs while somebody is ready.
  pub someone_runs : kept.ready ≢ 0 → (i : ℕ) × (who_runs kept ≡ Some i)
  someone_runs some = go (who_runs kept) refl
    where
      nobody : who_runs kept ≡ None → (j : ℕ) → (b : Bool) → has kept.ready j ≡ b → b ≡ false
      nobody e j true h = absurd (true≢false (sym h ∙ who_nobody kept e j (ready_row j h)))
      nobody e j false h = refl

      go : (who : Option ℕ) → who_runs kept ≡ who → (i : ℕ) × (who_runs kept ≡ Some i)
      go (Some i) e = (i, e)
      go None e = absurd (some (same_everywhere kept.ready zero (λ j. nobody e j (has kept.ready j) refl ∙ sym (has_zero j))))
