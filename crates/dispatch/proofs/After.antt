-- What is kept after an event and what it answers, put together from the parts that the code computes. Assumes nothing.
use Prim.Native.Nat.{ℕ, ◌+◌, ◌-◌}
use mathlib.Core.Path.{◌≡◌}
use lib.IntN.{ℤ}
use lib.ListN.{length}
use Rattle.sets.specs.Member.{width, with_of, without_of}
use Rattle.table.specs.Table.{Table, task_of}
use Rattle.table.specs.Floor.{floor_of}
use Rattle.machine.specs.Order.{row_of}
use Rattle.machine.specs.Reply.{Turn}
use Rattle.machine.specs.Fields.{with_clock, with_count, with_ready, with_had, with_row}
use Rattle.machine.specs.Machine.{turn_of, new_job, no_job_since, released, held_of, lowered, locked, restored, unlocked, cleared}
use Rattle.machine.specs.Moves.{Outcome}
use Rattle.machine.specs.declared.Job.{Job}
use Rattle.machine.specs.declared.Kept.{Kept}
use Rattle.dispatch.specs.Heard.{went_with}
use Rattle.dispatch.specs.Parts.{goes_on}
use Rattle.std.specs.Prelude.{Option}

-- ---- what is answered

pub went_is : (kept : Kept) (late : Option ℤ) (turn : Turn) → turn ≡ turn_of kept → ◌≡◌ {A = Outcome} (record { kept = kept; said = went_with late turn }) (goes_on late kept)
went_is kept late turn e = rw e

-- ---- what is kept

module _ (table : Table) (kept : Kept) (i time : ℕ) (next : Kept) (job : Job) (row : next ≡ with_clock time (with_row i job kept)) where
  pub released_is : (deadline ready had : ℕ) → job ≡ new_job (time + deadline) kept.count time → deadline ≡ (task_of table i).D →
      ready ≡ with_of width kept.ready i → had ≡ with_of width kept.had i →
      with_had had (with_ready ready (with_count (kept.count + 1) next)) ≡ released table kept i time
  unfolding released
  released_is deadline ready had e₁ e₂ e₃ e₄ = rw (row, e₁, e₂, e₃, e₄)

  pub locked_is : (r depth floor : ℕ) → job ≡ lowered depth (time + floor) (row_of kept i) → depth ≡ length (held_of table kept i) →
      floor ≡ floor_of table r → next ≡ locked table kept i r time
  unfolding locked
  locked_is r depth floor e₁ e₂ e₃ = rw (row, e₁, e₂, e₃)

  pub unlocked_is : (depth : ℕ) → job ≡ restored (depth - 1) (row_of kept i) → depth ≡ length (held_of table kept i) → next ≡ unlocked table kept i time
  unfolding unlocked
  unlocked_is depth e₁ e₂ = rw (row, e₁, e₂)

pub cleared_is : (kept : Kept) (i time : ℕ) (next : Kept) (job : Job) → next ≡ with_clock time (with_row i job kept) → (ready : ℕ) →
    job ≡ no_job_since (row_of kept i).last → ready ≡ without_of width kept.ready i → with_ready ready next ≡ cleared kept i time
unfolding cleared
cleared_is kept i time next job row ready e₁ e₂ = rw (row, e₁, e₂)
