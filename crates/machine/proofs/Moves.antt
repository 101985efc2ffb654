-- What an event can do: a ground turns it away, and what is kept comes back equal; or it is one of four moves, a release, a lock, an unlock, a finish, each with
-- what it has passed. Every proof about runs splits on this and never opens the events.
-- Who runs enters as a function `who`, so that another choice of the running job has the same moves. Assumes nothing.
use Prim.Native.Nat.{ℕ, ◌≤◌, ◌<◌}
use mathlib.Core.Path.{◌≡◌, refl, sym, ap, ◌∙◌}
use mathlib.Core.Bool.{Bool, true, false, true≢false}
use lib.Dec.{ltb, leb}
use borrow.Author.Tests.{le-ltb, lt-leb, ltb-false, leb-false}
use Rattle.std.specs.Prelude.{Option, Some, None}
use Rattle.sets.specs.Member.{has}
use Rattle.numbers.specs.Answers.{HELD}
use Rattle.numbers.proofs.Any.{any_false, any_hit}
use Rattle.table.specs.Limits.{most_tasks, end_of_time}
use Rattle.table.specs.Table.{Table, tasks_of}
use Rattle.table.specs.declared.Next.{Next}
use Rattle.table.specs.declared.Next.TheVariants.{Lock, Unlock, Finish}
use Rattle.machine.specs.Order.{row_of, who_runs}
use Rattle.machine.specs.Reply.{Turn, runs, idle, EventReply, went_on, finished, Accepted}
use Rattle.machine.specs.Event.{Event, release, step, time_of}
use Rattle.machine.specs.Machine.{released, locked, unlocked, cleared, lateness, turn_of, next_in}
use Rattle.machine.specs.Moves.{Move, to_release, to_lock, to_unlock, to_finish, Outcome, carried_out, running, step_move, next_move, move_of, accepted}
use Rattle.machine.specs.Away.{Given, here, later, NoGround, more, none, turned_away, early, release_grounds, none_ready, held_by_another, next_held, locks_held_by, locks_held, grounds_of, event_in}
use Rattle.machine.specs.declared.Kept.{Kept}
use Rattle.machine.proofs.Order.{who_nobody, who_ready}
use Rattle.machine.proofs.Given.{given_none, given_number}

-- ---- an event, from the rows of its table

pub event_away : (table : Table) (kept : Kept) (e : Event) (number : ℕ) → Given number (grounds_of table kept e) → event_in table kept e ≡ turned_away kept number
unfolding event_in
event_away table kept e number g = given_number kept (accepted table kept e) g

pub event_on : (table : Table) (kept : Kept) (e : Event) → NoGround (grounds_of table kept e) → event_in table kept e ≡ accepted table kept e
unfolding event_in
event_on table kept e n = given_none kept (accepted table kept e) n

-- ---- an accepted event

-- No move is a refusal, and each sets the clock to its time.
record Carried (time : ℕ) (out : Outcome) : Type 0 where
  ok : Accepted out.said
  clock : out.kept.clock ≡ time

carried : (table : Table) (kept : Kept) (time : ℕ) (move : Move) → Carried time (carried_out table kept time move)
unfolding released locked unlocked cleared
carried table kept time (to_release i) = record { ok = tt; clock = refl }
carried table kept time (to_lock i r) = record { ok = tt; clock = refl }
carried table kept time (to_unlock i) = record { ok = tt; clock = refl }
carried table kept time (to_finish i) = record { ok = tt; clock = refl }

pub accepted_ok : (table : Table) (kept : Kept) (e : Event) → Accepted (accepted table kept e).said
unfolding accepted
accepted_ok table kept e = (carried table kept (time_of e) (move_of table kept e)).ok

-- "An accepted event sets the clock to its time."
pub accepted_clock : (table : Table) (kept : Kept) (e : Event) → (accepted table kept e).kept.clock ≡ time_of e
unfolding accepted
accepted_clock table kept e = (carried table kept (time_of e) (move_of table kept e)).clock

-- A release that isn't turned away, and a step of the job that runs.
pub accepted_release : (table : Table) (kept : Kept) (i time : ℕ) →
    accepted table kept (release i time) ≡ carried_out table kept time (to_release i)
unfolding accepted
accepted_release table kept i time = refl

pub accepted_step : (table : Table) (kept : Kept) (i time : ℕ) (next : Next) → who_runs kept ≡ Some i → next_in table kept i ≡ next →
    accepted table kept (step time) ≡ carried_out table kept time (step_move i next)
unfolding accepted
accepted_step table kept i time next e f =
    ap (λ (who : Option ℕ). carried_out table kept time (next_move table kept (running who))) e
    ∙ ap (λ (n : Next). carried_out table kept time (step_move i n)) f

-- ---- NOBODY and HELD, by who runs

pub none_ready_lem : (kept : Kept) → who_runs kept ≡ None → none_ready kept ≡ true
unfolding none_ready
none_ready_lem kept e = rw (any_false most_tasks (λ j. has kept.ready j) (who_nobody kept e))

pub some_ready : (kept : Kept) (i : ℕ) → who_runs kept ≡ Some i → none_ready kept ≡ false
unfolding none_ready
some_ready kept i e = rw (any_hit most_tasks i (λ j. has kept.ready j) (who_ready kept i e).0 (who_ready kept i e).1)

pub someone : (kept : Kept) → none_ready kept ≡ false → (i : ℕ) × (who_runs kept ≡ Some i)
someone kept h = go (who_runs kept) refl
  where
    go : (who : Option ℕ) → who_runs kept ≡ who → (i : ℕ) × (who_runs kept ≡ Some i)
    go None e = absurd (true≢false (sym (none_ready_lem kept e) ∙ h))
    go (Some i) e = (i, e)

pub nobody : (kept : Kept) → none_ready kept ≡ true → who_runs kept ≡ None
nobody kept h = go (who_runs kept) refl
  where
    go : (who : Option ℕ) → who_runs kept ≡ who → who_runs kept ≡ None
    go None e = e
    go (Some i) e = absurd (true≢false (sym h ∙ some_ready kept i e))

pub next_held_lem : (table : Table) (kept : Kept) (i : ℕ) (next : Next) (b : Bool) → who_runs kept ≡ Some i → next_in table kept i ≡ next →
    next_held table kept i next ≡ b → locks_held table kept ≡ b
unfolding locks_held
next_held_lem table kept i next b e f h = ap (locks_held_by table kept) e ∙ ap (next_held table kept i) f ∙ h

-- ---- an event by the tests that were made

pub release_carried : (table : Table) (kept : Kept) (i time : ℕ) → NoGround (release_grounds table kept i time) →
    carried_out table kept time (to_release i) ≡ event_in table kept (release i time)
release_carried table kept i time n = sym (event_on table kept (release i time) n ∙ accepted_release table kept i time)

module _ (table : Table) (kept : Kept) (i time : ℕ) (back : kept.clock ≤ time) (end : time < end_of_time) (who : who_runs kept ≡ Some i) where
  pub step_held : (next : Next) → next_in table kept i ≡ next → next_held table kept i next ≡ true → turned_away kept HELD ≡ event_in table kept (step time)
  step_held next f h =
      sym (event_away table kept (step time) HELD
      (later (le-ltb _ _ back) (later (lt-leb _ _ end) (later (some_ready kept i who) (here refl (next_held_lem table kept i next _ who f h))))))

  pub step_carried : (next : Next) → next_in table kept i ≡ next → next_held table kept i next ≡ false →
      carried_out table kept time (step_move i next) ≡ event_in table kept (step time)
  step_carried next f h =
      sym (event_on table kept (step time)
      (more (le-ltb _ _ back) (more (lt-leb _ _ end) (more (some_ready kept i who) (more (next_held_lem table kept i next _ who f h) none))))
      ∙ accepted_step table kept i time next who f)

-- The running job's next step is a lock of what another ready job holds.
pub record LocksHeld (table : Table) (kept : Kept) : Type 0 where
  pub task : ℕ
  pub resource : ℕ
  pub length : ℕ
  pub runs : who_runs kept ≡ Some task
  pub next : next_in table kept task ≡ Lock resource length
  pub held : held_by_another table kept task resource ≡ true

pub held_by_whom : (table : Table) (kept : Kept) → locks_held table kept ≡ true → LocksHeld table kept
unfolding locks_held
held_by_whom table kept h = by_who (who_runs kept) refl h
  where
    by_next : (i : ℕ) → who_runs kept ≡ Some i → (next : Next) → next_in table kept i ≡ next → next_held table kept i next ≡ true → LocksHeld table kept
    by_next i e (Lock r l) f h = record { task = i; resource = r; length = l; runs = e; next = f; held = h }
    by_next i e Unlock f h = absurd (true≢false (sym h))
    by_next i e Finish f h = absurd (true≢false (sym h))

    by_who : (who : Option ℕ) → who_runs kept ≡ who → locks_held_by table kept who ≡ true → LocksHeld table kept
    by_who (Some i) e h = by_next i e (next_in table kept i) refl h
    by_who None e h = absurd (true≢false (sym h))

-- ---- the moves, with what each has passed

-- "'runs' with task number and active deadline, or 'idle'", for any choice of who runs
abbrev pub turn_by : (Kept → Option ℕ) → Kept → Turn
turn_by who kept = elim (who kept) [ Some i ↦ runs i (row_of kept i).active | None ↦ idle ]

-- A time that is neither BACK nor END.
pub record Timely (kept : Kept) (time : ℕ) : Type 0 where
  pub back : kept.clock ≤ time
  pub end : time < end_of_time

-- A release that none of the checks turns away.
pub record Releasable (table : Table) (kept : Kept) (i time : ℕ) : Type 0 where
  pub timely : Timely kept time
  pub below : i < tasks_of table
  pub idle : has kept.ready i ≡ false
  pub apart : early table kept i time ≡ false

-- A step of the running job, which is task i's, that comes in time.
pub record Stepped (who : Kept → Option ℕ) (kept : Kept) (i time : ℕ) : Type 0 where
  pub timely : Timely kept time
  pub runs : who kept ≡ Some i

-- The accepted events: what is kept afterwards, and what is said.
pub data Moving (who : Kept → Option ℕ) (table : Table) (kept : Kept) : Event → Kept → EventReply → Type 0 where
  releases : (i time : ℕ) → Releasable table kept i time →
      Moving who table kept (release i time) (released table kept i time) (went_on (turn_by who (released table kept i time)))
  locks : (i r l time : ℕ) → Stepped who kept i time → next_in table kept i ≡ Lock r l → held_by_another table kept i r ≡ false →
      Moving who table kept (step time) (locked table kept i r time) (went_on (turn_by who (locked table kept i r time)))
  unlocks : (i time : ℕ) → Stepped who kept i time → next_in table kept i ≡ Unlock →
      Moving who table kept (step time) (unlocked table kept i time) (went_on (turn_by who (unlocked table kept i time)))
  finishes : (i time : ℕ) → Stepped who kept i time → next_in table kept i ≡ Finish →
      Moving who table kept (step time) (cleared kept i time)
      (finished (lateness time (row_of kept i).base) (turn_by who (cleared kept i time)))

timely : (kept : Kept) (time : ℕ) → ltb time kept.clock ≡ false → leb end_of_time time ≡ false → Timely kept time
timely kept time b e = record { back = ltb-false _ _ b; end = leb-false _ _ e }

-- What a release has passed that no ground turns away.
pub releasable : {table : Table} {kept : Kept} {i time : ℕ} → NoGround (release_grounds table kept i time) → Releasable table kept i time
releasable {table} {kept} {i} {time} (more b (more e (more n (more a (more s none))))) = record {
  timely = timely kept time b e;
  below = leb-false _ _ n;
  idle = a;
  apart = s;
}

-- An event that no ground turns away is a move.
abbrev Moves : Table → Kept → Event → Outcome → Type 0
Moves table kept e out = Moving who_runs table kept e out.kept out.said

step_moving : (table : Table) (kept : Kept) (i time : ℕ) → Stepped who_runs kept i time → locks_held table kept ≡ false → (next : Next) →
    next_in table kept i ≡ next → Moves table kept (step time) (carried_out table kept time (step_move i next))
unfolding turn_of
step_moving table kept i time steps free (Lock r l) f =
    locks i r l time steps f (sym (next_held_lem table kept i (Lock r l) _ steps.runs f refl) ∙ free)
step_moving table kept i time steps free Unlock f = unlocks i time steps f
step_moving table kept i time steps free Finish f = finishes i time steps f

pub moving : (table : Table) (kept : Kept) (e : Event) → NoGround (grounds_of table kept e) → Moves table kept e (accepted table kept e)
unfolding turn_of
moving table kept (release i time) g = rw (accepted_release table kept i time) (releases i time (releasable g))
moving table kept (step time) (more b (more e (more n (more h none)))) =
    let (i, who) = someone kept n in
    rw (accepted_step table kept i time (next_in table kept i) who refl)
    (step_moving table kept i time (record { timely = timely kept time b e; runs = who }) h (next_in table kept i) refl)
