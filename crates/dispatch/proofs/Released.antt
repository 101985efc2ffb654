-- What an accepted release leaves: the row of the new job, with the count before it as its release number; and "a new job never takes over on a tie"
-- (document 01, "The machine's rules"). A value of the type has sixteen rows, which a list alone does not say: the theorems ask it.
-- Assumes nothing.
use Prim.Native.Nat.{ℕ, ◌+◌, ◌<◌}
use native.Mathlib.Omega.{arith}
use mathlib.Core.Path.{◌≡◌, refl, sym, ap, subst, ◌∙◌}
use mathlib.Core.Logic.{◌≢◌}
use mathlib.Core.Bool.{Bool, true, false, true≢false}
use lib.Dec.{ltb}
use lib.ListN.{length}
use lib.Seq.{get_or-set_other}
use borrow.Author.Tests.{ltb-true, ltb-false, leb-false}
use Rattle.sets.specs.Member.{has}
use Rattle.table.specs.Limits.{most_tasks}
use Rattle.table.specs.Table.{Table, tasks_of, task_of}
use Rattle.table.proofs.Laws.{checked_valid}
use Rattle.machine.specs.Order.{by_deadline, by_release, Earlier, no_job, row_of, who_runs}
use Rattle.machine.specs.Event.{release}
use Rattle.machine.specs.Reply.{EventReply, runs, went_on, Accepted}
use Rattle.machine.specs.Machine.{turn_of, new_job, released}
use Rattle.machine.specs.Moves.{to_release, carried_out}
use Rattle.machine.specs.Away.{NoGround}
use Rattle.machine.specs.declared.Job.{Job}
use Rattle.machine.specs.declared.Kept.{Kept}
use Rattle.std.specs.Prelude.{Some}
use Rattle.machine.proofs.Order.{who_first}
use Rattle.machine.proofs.Given.{no_head, no_tail}
use Rattle.machine.proofs.Rows.{Changed, released_changes}
use Rattle.machine.proofs.Moves.{Releasable, releasable, accepted_release}
use Rattle.torn.specs.Torn.{same_number, torn_numbers}
use Rattle.torn.proofs.Untorn.{untorn}
use Rattle.dispatch.specs.State.{table_in}
use Rattle.dispatch.specs.Torn.{torn}
use Rattle.dispatch.specs.Heard.{Heard}
use Rattle.dispatch.specs.Dispatch as dispatch
use Rattle.dispatch.specs.Dispatch.{grounds_in}
use Rattle.dispatch.specs.declared.State.{State}
use Rattle.numbers.proofs.Any.{any_not}
use Rattle.numbers.proofs.Tests.{or_false_right, and_second}
use Rattle.machine.proofs.Turn.{turn_told}
use Rattle.dispatch.proofs.Grounds.{untorn_state, table_is}
use Rattle.dispatch.proofs.Exactly.{release_accepted}
use Rattle.dispatch.proofs.Handed.{event_on}

-- ---- an accepted release, whole

module _ (s : State) (i time : ℕ) (ok : Accepted (dispatch.release_of s i time).said) where
  grounds : NoGround (grounds_in s (release i time))
  grounds = (release_accepted s i time).0 ok

  whole : torn s ≡ false
  whole = no_head grounds

  -- None of the checks turned it away.
  free : Releasable (table_in s) s.kept i time
  free = releasable (no_tail grounds)

  pub release_went : dispatch.release_of s i time ≡ dispatch.after s (carried_out (table_in s) s.kept time (to_release i))
  unfolding dispatch.release_of
  release_went = event_on s (release i time) ok ∙ ap (dispatch.after s) (accepted_release (table_in s) s.kept i time)

  left : (dispatch.release_of s i time).state.kept ≡ released (table_in s) s.kept i time
  left = ap (λ (h : Heard). h.state.kept) release_went

  pub release_row : i < most_tasks
  release_row =
      let (used, rest) = untorn_state s whole in
      let (t, e, q) = rest in
      let l : i < tasks_of t = subst (λ (x : Table). i < tasks_of x) (table_is s t e) free.below in
      let m = (checked_valid _ t e).tasks_most in
      omega arith

  pub release_changes : length s.kept.rows ≡ most_tasks →
      Changed s.kept (dispatch.release_of s i time).state.kept i (new_job (time + (task_of (table_in s) i).D) s.kept.count time) true
  release_changes rows =
      rw left (released_changes (table_in s) s.kept i time (let l = release_row in omega arith) (let l = release_row in omega arith))

  -- "A release of task i at time t makes a job with base deadline t + D." "Its active deadline starts equal to the base (002, section 5)."
  pub release_makes : length s.kept.rows ≡ most_tasks →
      row_of (dispatch.release_of s i time).state.kept i ≡ new_job (time + (task_of (table_in s) i).D) s.kept.count time
  release_makes rows = (release_changes rows).row

  -- "An accepted release gives its job, as release number, the count of accepted releases before it."
  pub release_number : length s.kept.rows ≡ most_tasks → (row_of (dispatch.release_of s i time).state.kept i).number ≡ s.kept.count
  release_number rows = ap (λ (job : Job). job.number) (release_makes rows)

  pub release_count : (dispatch.release_of s i time).state.kept.count ≡ s.kept.count + 1
  unfolding released
  release_count = ap (λ (kept : Kept). kept.count) left

  -- The other rows stay.
  pub release_others : (j : ℕ) → j ≢ i → row_of (dispatch.release_of s i time).state.kept j ≡ row_of s.kept j
  unfolding released
  release_others j differ = ap (λ (kept : Kept). row_of kept j) left ∙ get_or-set_other s.kept.rows i j _ no_job differ

  -- A ready job's number is below the count.
  number_below : (j : ℕ) → j < most_tasks → has s.kept.ready j ≡ true → (row_of s.kept j).number < s.kept.count
  unfolding torn_numbers
  number_below j l h =
      let (used, rest) = untorn_state s whole in
      let (t, e, q) = rest in
      leb-false s.kept.count (row_of s.kept j).number
      (or_false_right (same_number s.kept j) _
      (and_second (has s.kept.ready j) _
      (any_not most_tasks _ (untorn t s.kept q).numbers j l) h))

-- "So a new job never takes over on a tie": where the reply to its release names the new job, its deadline is before that of every job that was ready.
pub new_job_before : (s : State) (i time deadline : ℕ) → length s.kept.rows ≡ most_tasks →
    (dispatch.release_of s i time).said ≡ went_on (runs i deadline) →
    (j : ℕ) → j < most_tasks → has s.kept.ready j ≡ true → deadline < (row_of s.kept j).active
new_job_before s i time deadline rows said j l h = go (ltb deadline (row_of s.kept j).active) refl (ltb (row_of s.kept j).active deadline) refl
  where
    ok : Accepted (dispatch.release_of s i time).said
    ok = subst (λ (x : EventReply). Accepted x) (sym said) tt

    after : Kept
    after = (dispatch.release_of s i time).state.kept

    as_released : after ≡ released (table_in s) s.kept i time
    as_released = left s i time ok

    changes : Changed s.kept after i (new_job (time + (task_of (table_in s) i).D) s.kept.count time) true
    changes = release_changes s i time ok rows

    told : turn_of (released (table_in s) s.kept i time) ≡ runs i deadline
    told = cc (ap (λ (heard : Heard). heard.said) (release_went s i time ok))

    runs_new : who_runs after ≡ Some i
    runs_new = ap who_runs as_released ∙ (turn_told (released (table_in s) s.kept i time) i deadline told).0

    new_active : deadline ≡ (row_of after i).active
    new_active =
        (turn_told (released (table_in s) s.kept i time) i deadline told).1 ∙ ap (λ (kept : Kept). (row_of kept i).active) (sym as_released)

    differ : j ≢ i
    differ e = true≢false (sym h ∙ ap (λ (k : ℕ). has s.kept.ready k) e ∙ (free s i time ok).idle)

    ready : has after.ready j ≡ true
    ready = changes.bits j differ ∙ h

    old_row : row_of after j ≡ row_of s.kept j
    old_row = changes.others j differ

    old_active : (row_of after j).active ≡ (row_of s.kept j).active
    old_active = ap (λ (job : Job). job.active) old_row

    old_number : (row_of after j).number ≡ (row_of s.kept j).number
    old_number = ap (λ (job : Job). job.number) old_row

    first : Earlier (row_of after j) (row_of after i) → ⊥
    first = who_first after i j runs_new l ready

    below : (row_of s.kept j).number < s.kept.count
    below = number_below s i time ok j l h

    newest : (row_of after i).number ≡ s.kept.count
    newest = release_number s i time ok rows

    go : (b : Bool) → ltb deadline (row_of s.kept j).active ≡ b → (d : Bool) → ltb (row_of s.kept j).active deadline ≡ d →
        deadline < (row_of s.kept j).active
    go true p d q = ltb-true deadline (row_of s.kept j).active p
    go false p true q = absurd (first (by_deadline (let less = ltb-true (row_of s.kept j).active deadline q in omega (arith, old_active, new_active))))
    go false p false q =
        let most = ltb-false deadline (row_of s.kept j).active p in
        let least = ltb-false (row_of s.kept j).active deadline q in
        let same : (row_of after j).active ≡ (row_of after i).active = omega (arith, old_active, new_active) in
        absurd (first (by_release same (omega (arith, old_number, newest, below))))
