-- What every state of a run has, whoever the choice of the running job is: the clock, the places and the stored times within their bounds, release
-- numbers that differ, a count within its bound, and for each ready job a stack of entry values that fall inwards.
-- The count is bounded because every accepted release raises the sum, over the tasks that have had one, of the last release plus one: releases of
-- a task lie at least T apart, and T is at least 1. Assumes nothing.
use Prim.Native.Nat.{ℕ, zero, suc, ◌+◌, ◌-◌, ◌≤◌, ◌<◌, min, zero-le}
use mathlib.Core.Path.{◌≡◌, refl, sym, ap, ap₂, ◌∙◌}
use mathlib.Core.Logic.{◌≢◌}
use mathlib.Core.Bool.{Bool, true, false, true≢false}
use mathlib.Core.List.{List, [], ◌∷◌}
use native.Mathlib.Nat.{le_refl, le_trans, lt_of_lt_of_le}
use native.Mathlib.Numerals.{add-one}
use native.Mathlib.Omega.{arith}
use lib.Dec.{ltb}
use lib.ListN.{length, get_or, set, replicate, length-set, get_or-replicate}
use borrow.Author.Tests.{ltb-false}
use Rattle.std.specs.Prelude.{Option, Some}
use Rattle.sets.specs.Member.{width, has, with_of}
use Rattle.sets.proofs.Digit.{has_zero}
use Rattle.sets.proofs.Change.{has_with_same, has_with_other}
use Rattle.table.specs.Limits.{most_tasks, most_held, end_of_time, most_stored}
use Rattle.table.specs.Table.{Table, tasks_of, task_of}
use Rattle.table.specs.Held.{Section, held_by}
use Rattle.table.specs.Floor.{floor_of}
use Rattle.table.specs.Valid.{Valid, ValidTask}
use Rattle.table.specs.declared.Next.TheVariants.{Lock, Unlock}
use Rattle.table.proofs.Plans.{held_start, held_lock, held_unlock, lock_room, next_below, next_below_unlock}
use Rattle.machine.specs.Order.{row_of, no_job}
use Rattle.machine.specs.Reply.{EventReply}
use Rattle.machine.specs.Machine.{no_job_since, new_job, next_in, held_of, lowered, restored, released, locked, unlocked, cleared, fresh}
use Rattle.machine.specs.Fields.{with_clock, with_ready, with_row}
use Rattle.machine.specs.declared.Job.{Job}
use Rattle.machine.specs.declared.Kept.{Kept}
use Rattle.runs.specs.Run.{Event}
use Rattle.machine.proofs.Moves.{Timely, Releasable, Moving, releases, locks, unlocks, finishes}
use Rattle.machine.proofs.Rows.{Changed, rows_after, ready_after, pairs_after, held_in, released_changes, locked_changes, unlocked_changes, cleared_changes}
use Rattle.runs.proofs.Stack.{Stack, bare, stack_clock, stack_lock, stack_unlock}
use Rattle.runs.proofs.Sum.{sum_below, sum_same, sum_raised}

-- ---- the definitions

-- A row's stored times: "a stored time is above 2^40 + 1,000,000" is a ground of TORN.
pub record Stored (job : Job) : Type 0 where
  pub base : job.base ≤ most_stored
  pub active : job.active ≤ most_stored
  pub saved : (k : ℕ) → get_or job.saved k 0 ≤ most_stored
  pub last : job.last ≤ most_stored

-- The job of task i, which is ready.
pub record Going (table : Table) (clock count i : ℕ) (job : Job) : Type 0 where
  pub below : i < tasks_of table
  pub place : job.place ≤ length (task_of table i).plan
  pub number : job.number < count
  pub stack : Stack (floor_of table) clock job.base job.saved (held_in table i job) job.active

-- A task's last release plus one, where it has had one.
abbrev pub weight : Bool → ℕ → ℕ
weight true last = last + 1
weight false last = 0

unfoldable pub potential : Kept → ℕ
potential kept = sum_below most_tasks (λ i. weight (has kept.had i) (row_of kept i).last)

pub record Shape (table : Table) (kept : Kept) : Type 0 where
  pub clock : kept.clock < end_of_time
  pub rows : length kept.rows ≡ most_tasks
  pub room : (i : ℕ) → i < most_tasks → length (row_of kept i).saved ≡ most_held
  pub stored : (i : ℕ) → Stored (row_of kept i)
  pub going : (i : ℕ) → has kept.ready i ≡ true → Going table kept.clock kept.count i (row_of kept i)
  pub numbers : (i j : ℕ) → i ≢ j → has kept.ready i ≡ true → has kept.ready j ≡ true → (row_of kept i).number ≢ (row_of kept j).number
  pub last : (i : ℕ) → has kept.had i ≡ true → (row_of kept i).last ≤ kept.clock
  pub count : kept.count ≤ potential kept

-- ---- a fresh start

-- What stands at any index of a list of equals, the indices that aren't there included.
equals_each : {A : Type 0} (P : A → Type 0) {x other : A} → P x → P other → (n i : ℕ) → P (get_or (replicate n x) i other)
equals_each P here gone zero i = gone
equals_each P here gone (suc n) zero = here
equals_each P here gone (suc n) (suc i) = equals_each P here gone n i

zeros : (k : ℕ) → get_or (replicate most_held zero) k zero ≡ zero
zeros k = equals_each (λ v. v ≡ zero) refl refl most_held k

none_stored : (last : ℕ) → last ≤ most_stored → Stored (no_job_since last)
none_stored last h = record {
  base = zero-le;
  active = zero-le;
  saved = λ k. rw (zeros k) zero-le;
  last = h;
}

pub fresh_shape : (table : Table) → Shape table fresh
fresh_shape table = record {
  clock = omega arith;
  rows = refl;
  room = λ i h. ap (λ (job : Job). length job.saved) (get_or-replicate most_tasks i (no_job_since 0) no_job h);
  stored = λ i. equals_each Stored (none_stored 0 zero-le) nowhere most_tasks i;
  going = λ i h. absurd (true≢false (sym h ∙ has_zero i));
  numbers = λ i j n h g. absurd (true≢false (sym h ∙ has_zero i));
  last = λ i h. absurd (true≢false (sym h ∙ has_zero i));
  count = zero-le;
}
  where
    nowhere : Stored no_job
    nowhere = record { base = zero-le; active = zero-le; saved = λ k. zero-le; last = zero-le }

-- ---- the clock goes on, and the count with it

going_on : {table : Table} {clock count i : ℕ} {job : Job} {later more : ℕ} → clock ≤ later → count ≤ more → Going table clock count i job →
    Going table later more i job
going_on l m g = record {
  below = g.below;
  place = g.place;
  number = lt_of_lt_of_le g.number m;
  stack = stack_clock l g.stack;
}

-- ---- a release

module _ {table : Table} (valid : Valid table) {kept : Kept} (shape : Shape table kept) {i time : ℕ} (free : Releasable table kept i time) where
  task : ValidTask table.resources (task_of table i)
  task = valid.each i free.below

  i_row : i < most_tasks
  i_row = lt_of_lt_of_le free.below valid.tasks_most

  pub released_change : Changed kept (released table kept i time) i (new_job (time + (task_of table i).D) kept.count time) true
  released_change = released_changes table kept i time (rw shape.rows i_row) (omega (arith, i_row))

  new_stored : Stored (new_job (time + (task_of table i).D) kept.count time)
  new_stored =
      let deadline : time + (task_of table i).D ≤ most_stored = omega (arith, free.timely.end, task.D_most) in
      record { base = deadline; active = deadline; saved = λ k. rw (zeros k) zero-le; last = omega (arith, free.timely.end) }

  new_going : Going table time (kept.count + 1) i (new_job (time + (task_of table i).D) kept.count time)
  new_going = record {
    below = free.below;
    place = zero-le;
    number = omega arith;
    stack = rw (held_start (task_of table i).plan) bare;
  }

  -- "less than T after the task's last accepted release" is EARLY, and T is at least 1.
  raised : weight (has kept.had i) (row_of kept i).last < time + 1
  raised = go (has kept.had i) refl
    where
      go : (b : Bool) → has kept.had i ≡ b → weight b (row_of kept i).last < time + 1
      go true e =
          let far : ltb time ((row_of kept i).last + (task_of table i).T) ≡ false = rw e at free.apart in
          omega (arith, ltb-false time ((row_of kept i).last + (task_of table i).T) far, task.T_least)
      go false e = omega arith

  potential_raised : potential kept < potential (released table kept i time)
  unfolding potential released
  potential_raised =
      sum_raised most_tasks _ _ i i_row
      (λ j n. ap₂ weight (sym (has_with_other width kept.had i j n)) (ap (λ (job : Job). job.last) (sym (released_change.others j n))))
      (rw (has_with_same width kept.had i (omega (arith, i_row)), released_change.row) raised)

  pub released_shape : Shape table (released table kept i time)
  unfolding released
  released_shape = record {
    clock = free.timely.end;
    rows = length-set kept.rows i _ ∙ shape.rows;
    room = rows_after released_change (λ j job. j < most_tasks → length job.saved ≡ most_held) (λ h. refl) (λ j n h. shape.room j h);
    stored = rows_after released_change (λ j job. Stored job) new_stored (λ j n. shape.stored j);
    going = ready_after released_change (λ j job. Going table time (kept.count + 1) j job) (λ o. new_going)
        (λ j n h. going_on free.timely.back (omega arith) (shape.going j h));
    numbers = pairs_after released_change (λ j x k y. x.number ≢ y.number) (λ o j n h. omega (arith, (shape.going j h).number))
        (λ o j n h. omega (arith, (shape.going j h).number)) (λ j k u v n h g. shape.numbers j k n h g);
    last = rows_after released_change (λ j job. has (with_of width kept.had i) j ≡ true → job.last ≤ time) (λ h. le_refl time)
        (λ j n h. le_trans (shape.last j (sym (has_with_other width kept.had i j n) ∙ h)) free.timely.back);
    count = omega (arith, shape.count, potential_raised);
  }

-- ---- a step: the row of a ready job changes, and nothing is released

-- What is kept after a step.
abbrev stepped_to : Kept → ℕ → ℕ → ℕ → Job → Kept
stepped_to kept time ready i job = with_clock time (with_ready ready (with_row i job kept))

module _ {table : Table} {kept : Kept} (shape : Shape table kept) {i time ready : ℕ} {job : Job} {on : Bool} (timely : Timely kept time)
    (changes : Changed kept (stepped_to kept time ready i job) i job on) (last : job.last ≡ (row_of kept i).last) (stored : Stored job)
    (room : length job.saved ≡ most_held) (number : on ≡ true → job.number ≡ (row_of kept i).number)
    (there : on ≡ true → has kept.ready i ≡ true) (going : on ≡ true → Going table time kept.count i job) where
  lasts : (j : ℕ) → (row_of (stepped_to kept time ready i job) j).last ≡ (row_of kept j).last
  lasts = rows_after changes (λ j row. row.last ≡ (row_of kept j).last) last (λ j n. refl)

  potential_kept : potential (stepped_to kept time ready i job) ≡ potential kept
  unfolding potential
  potential_kept = sum_same most_tasks _ _ (λ j h. ap (weight (has kept.had j)) (lasts j))

  stepped_shape : Shape table (stepped_to kept time ready i job)
  stepped_shape = record {
    clock = timely.end;
    rows = length-set kept.rows i job ∙ shape.rows;
    room = rows_after changes (λ j row. j < most_tasks → length row.saved ≡ most_held) (λ h. room) (λ j n h. shape.room j h);
    stored = rows_after changes (λ j row. Stored row) stored (λ j n. shape.stored j);
    going = ready_after changes (λ j row. Going table time kept.count j row) going
        (λ j n h. going_on timely.back (le_refl _) (shape.going j h));
    numbers = pairs_after changes (λ j x k y. x.number ≢ y.number)
        (λ o j n h. rw (number o) (shape.numbers i j (λ e. n (sym e)) (there o) h))
        (λ o j n h. rw (number o) (shape.numbers j i n h (there o))) (λ j k u v n h g. shape.numbers j k n h g);
    last = λ j h. rw (lasts j) (le_trans (shape.last j h) timely.back);
    count = rw potential_kept shape.count;
  }

-- One entry of a list changed: a bound on all of them stays.
set_most : (l : List ℕ) (d v b : ℕ) → ((k : ℕ) → get_or l k 0 ≤ b) → v ≤ b → (k : ℕ) → get_or (set l d v) k 0 ≤ b
set_most [] d v b h g k = h k
set_most (x ∷ l) zero v b h g zero = g
set_most (x ∷ l) zero v b h g (suc k) = h (suc k)
set_most (x ∷ l) (suc d) v b h g zero = h zero
set_most (x ∷ l) (suc d) v b h g (suc k) = set_most l d v b (λ j. h (suc j)) g k

-- The job that steps, and what its step changes.
module _ {table : Table} (valid : Valid table) {kept : Kept} (shape : Shape table kept) (i time : ℕ) (ready : has kept.ready i ≡ true) where
  job_of : Going table kept.clock kept.count i (row_of kept i)
  job_of = shape.going i ready

  row_of_lem : i < most_tasks
  row_of_lem = lt_of_lt_of_le job_of.below valid.tasks_most

  row_there : i < length kept.rows
  row_there = rw shape.rows row_of_lem

  plan_of : ValidTask table.resources (task_of table i)
  plan_of = valid.each i job_of.below

  pub locked_change : (r : ℕ) →
      Changed kept (locked table kept i r time) i (lowered (length (held_of table kept i)) (time + floor_of table r) (row_of kept i)) true
  locked_change r = locked_changes table kept i time row_there r ready

  -- A lock finds its slot free.
  pub lock_slot : (r l : ℕ) → next_in table kept i ≡ Lock r l → length (held_of table kept i) < length (row_of kept i).saved
  lock_slot r l next = rw (shape.room i row_of_lem) (lock_room plan_of.nested (row_of kept i).place next)

  pub lock_held : (r l : ℕ) → next_in table kept i ≡ Lock r l →
      held_by (task_of table i).plan ((row_of kept i).place + 1) ≡ record { resource = r; length = l } ∷ held_of table kept i
  lock_held r l next = rw (add-one (row_of kept i).place) (held_lock (task_of table i).plan (row_of kept i).place next)

  -- An unlock leaves all but the innermost, and its slot is their depth.
  pub unlock_held : next_in table kept i ≡ Unlock →
      (s : Section) × (held_of table kept i ≡ s ∷ held_by (task_of table i).plan ((row_of kept i).place + 1))
  unlock_held next = rw (add-one (row_of kept i).place) (held_unlock plan_of.nested (row_of kept i).place next)

  unlock_slot : next_in table kept i ≡ Unlock → length (held_of table kept i) - 1 ≡ length (held_by (task_of table i).plan ((row_of kept i).place + 1))
  unlock_slot next = rw (unlock_held next).1 (omega arith)

  pub unlocked_change : next_in table kept i ≡ Unlock →
      Changed kept (unlocked table kept i time) i (restored (length (held_by (task_of table i).plan ((row_of kept i).place + 1))) (row_of kept i)) true
  unlocked_change next = rw (unlock_slot next) at (unlocked_changes table kept i time row_there ready)

  pub cleared_change : Changed kept (cleared kept i time) i (no_job_since (row_of kept i).last) false
  cleared_change = cleared_changes table kept i time row_there (omega (arith, row_of_lem))

  -- ---- and what is kept afterwards

  module _ (timely : Timely kept time) where
    pub locked_shape : (r l : ℕ) → next_in table kept i ≡ Lock r l → Shape table (locked table kept i r time)
    unfolding locked
    locked_shape r l next =
        stepped_shape shape timely (locked_change r) refl stored (length-set (row_of kept i).saved _ _ ∙ shape.room i row_of_lem) (λ o. refl)
        (λ o. ready)
        (λ o. record {
          below = job_of.below;
          place = omega (arith, next_below (task_of table i).plan (row_of kept i).place next);
          number = job_of.number;
          stack = rw (lock_held r l next)
              (stack_lock (row_of kept i).saved (held_of table kept i) (row_of kept i).active (lock_slot r l next) (record { resource = r; length = l })
              (min (row_of kept i).active (time + floor_of table r)) (omega arith) (omega arith) (stack_clock timely.back job_of.stack));
        })
      where
        old : Stored (row_of kept i)
        old = shape.stored i

        stored : Stored (lowered (length (held_of table kept i)) (time + floor_of table r) (row_of kept i))
        stored = record {
          base = old.base;
          active = omega (arith, old.active);
          saved = set_most (row_of kept i).saved _ _ _ old.saved old.active;
          last = old.last;
        }

    pub unlocked_shape : next_in table kept i ≡ Unlock → Shape table (unlocked table kept i time)
    unfolding unlocked
    unlocked_shape next =
        stepped_shape shape timely (unlocked_changes table kept i time row_there ready) refl stored
        (length-set (row_of kept i).saved _ _ ∙ shape.room i row_of_lem) (λ o. refl) (λ o. ready)
        (λ o. record {
          below = job_of.below;
          place = omega (arith, next_below_unlock (task_of table i).plan (row_of kept i).place next);
          number = job_of.number;
          stack = rw (unlock_slot next)
              (stack_unlock (row_of kept i).saved (stack_clock timely.back (rw (unlock_held next).1 at job_of.stack)));
        })
      where
        old : Stored (row_of kept i)
        old = shape.stored i

        stored : Stored (restored (length (held_of table kept i) - 1) (row_of kept i))
        stored = record {
          base = old.base;
          active = old.saved _;
          saved = set_most (row_of kept i).saved _ _ _ old.saved zero-le;
          last = old.last;
        }

    pub cleared_shape : Shape table (cleared kept i time)
    unfolding cleared
    cleared_shape =
        stepped_shape shape timely cleared_change refl (none_stored (row_of kept i).last (shape.stored i).last) refl
        (λ o. absurd (true≢false (sym o))) (λ o. absurd (true≢false (sym o))) (λ o. absurd (true≢false (sym o)))

-- ---- every move, for any choice of the running job among the ready ones

module _ (who : Kept → Option ℕ) (who_ready : (kept : Kept) (i : ℕ) → who kept ≡ Some i → has kept.ready i ≡ true) {table : Table} (valid : Valid table)
  where
    pub kept_shape : {kept next : Kept} {e : Event} {said : EventReply} → Moving who table kept e next said → Shape table kept → Shape table next
    kept_shape (releases i time free) shape = released_shape valid shape free
    kept_shape {kept} (locks i r l time step next alone) shape =
        locked_shape valid shape i time (who_ready kept i step.runs) step.timely r l next
    kept_shape {kept} (unlocks i time step next) shape = unlocked_shape valid shape i time (who_ready kept i step.runs) step.timely next
    kept_shape {kept} (finishes i time step next) shape = cleared_shape valid shape i time (who_ready kept i step.runs) step.timely
