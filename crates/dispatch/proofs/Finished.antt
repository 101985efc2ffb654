-- What a finish leaves: "A finish sets the job's numbers to zero, all but the task's last release", and answers the lateness (document 01).
-- A value of the type has sixteen rows, which a list alone does not say: the theorem asks it. Assumes nothing.
use Prim.Native.Nat.{ℕ, ◌<◌}
use native.Mathlib.Omega.{arith}
use mathlib.Core.Path.{◌≡◌, refl, sym, ap, subst, ◌∙◌}
use mathlib.Core.Logic.{◌≢◌}
use mathlib.Core.Bool.{false}
use lib.IntN.{ℤ}
use lib.ListN.{length}
use Rattle.sets.specs.Member.{has}
use Rattle.table.specs.Limits.{most_tasks}
use Rattle.table.specs.Table.{Table}
use Rattle.table.specs.declared.Next.{Next}
use Rattle.table.specs.declared.Next.TheVariants.{Lock, Unlock, Finish}
use Rattle.numbers.proofs.Tests.{never}
use Rattle.machine.specs.Order.{row_of, who_runs}
use Rattle.machine.specs.Event.{step}
use Rattle.machine.specs.Reply.{Turn, EventReply, finished, Accepted}
use Rattle.machine.specs.Machine.{turn_of, no_job_since, next_in, cleared, lateness}
use Rattle.machine.specs.Moves.{Outcome, step_move, carried_out}
use Rattle.machine.specs.declared.Kept.{Kept}
use Rattle.std.specs.Prelude.{Some}
use Rattle.machine.proofs.Order.{who_ready}
use Rattle.machine.proofs.Rows.{Changed, cleared_changes}
use Rattle.machine.proofs.Moves.{accepted_step}
use Rattle.dispatch.specs.State.{table_in}
use Rattle.dispatch.specs.Heard.{Heard}
use Rattle.dispatch.specs.Dispatch as dispatch
use Rattle.dispatch.specs.declared.State.{State}
use Rattle.dispatch.proofs.Handed.{event_on}

-- ---- an accepted step of the running job, whole

pub step_went : (s : State) (i time : ℕ) → Accepted (dispatch.step_of s time).said → who_runs s.kept ≡ Some i →
    dispatch.step_of s time ≡ dispatch.after s (carried_out (table_in s) s.kept time (step_move i (next_in (table_in s) s.kept i)))
unfolding dispatch.step_of
step_went s i time ok e =
    event_on s (step time) ok ∙ ap (dispatch.after s) (accepted_step (table_in s) s.kept i time (next_in (table_in s) s.kept i) e refl)

-- Only a finish says a lateness, and then it is the job's.
record Finishes (kept : Kept) (i time : ℕ) (z : ℤ) (t : Turn) (out : Outcome) : Type 0 where
  left : out.kept ≡ cleared kept i time
  late : z ≡ lateness time (row_of kept i).base
  turn : t ≡ turn_of (cleared kept i time)

finishes : (table : Table) (kept : Kept) (i time : ℕ) (next : Next) (late : ℤ) (turn : Turn) →
    (carried_out table kept time (step_move i next)).said ≡ finished late turn → Finishes kept i time late turn (carried_out table kept time (step_move i next))
finishes table kept i time (Lock r l) late turn e = never (cc)
finishes table kept i time Unlock late turn e = never (cc)
finishes table kept i time Finish late turn e = record { left = refl; late = cc; turn = cc }

-- ---- the theorem

pub record Cleared (s : State) (i time : ℕ) (z : ℤ) (t : Turn) (after : State) : Type 0 where
  pub row : row_of after.kept i ≡ no_job_since (row_of s.kept i).last
  pub ready : has after.kept.ready i ≡ false
  pub had : after.kept.had ≡ s.kept.had
  pub count : after.kept.count ≡ s.kept.count
  pub others : (j : ℕ) → j ≢ i → row_of after.kept j ≡ row_of s.kept j
  pub late : z ≡ lateness time (row_of s.kept i).base
  pub turn : t ≡ turn_of after.kept

-- "A finish answers the lateness: time minus base deadline, signed." "A finish sets the job's numbers to zero, all but the task's last release."
pub finish_clears : (s : State) (i time : ℕ) (late : ℤ) (turn : Turn) → length s.kept.rows ≡ most_tasks → who_runs s.kept ≡ Some i →
    (dispatch.step_of s time).said ≡ finished late turn → Cleared s i time late turn (dispatch.step_of s time).state
unfolding cleared
finish_clears s i time late turn rows who said = record {
  row = changes.row;
  ready = changes.bit;
  had = ap (λ (kept : Kept). kept.had) left;
  count = ap (λ (kept : Kept). kept.count) left;
  others = changes.others;
  late = done.late;
  turn = done.turn ∙ ap turn_of (sym left);
}
  where
    went : dispatch.step_of s time ≡ dispatch.after s (carried_out (table_in s) s.kept time (step_move i (next_in (table_in s) s.kept i)))
    went = step_went s i time (subst (λ (x : EventReply). Accepted x) (sym said) tt) who

    done : Finishes s.kept i time late turn (carried_out (table_in s) s.kept time (step_move i (next_in (table_in s) s.kept i)))
    done =
        finishes (table_in s) s.kept i time (next_in (table_in s) s.kept i) late turn
        (sym (ap (λ (heard : Heard). heard.said) went) ∙ said)

    left : (dispatch.step_of s time).state.kept ≡ cleared s.kept i time
    left = ap (λ (heard : Heard). heard.state.kept) went ∙ done.left

    row : i < most_tasks
    row = (who_ready s.kept i who).0

    changes : Changed s.kept (dispatch.step_of s time).state.kept i (no_job_since (row_of s.kept i).last) false
    changes = rw left (cleared_changes (table_in s) s.kept i time (omega (arith, row)) (omega (arith, row)))
