-- What one event of a run does: it is quiet (refused), a release, or a step of the running job, and changes one row at most (`Passed`).
-- Of the choice of the running job it reads only that it is a ready one. Assumes nothing beyond what it is handed: what every reachable state has (`Good`).
use Prim.Native.Nat.{ℕ, suc, ◌≤◌, ◌<◌}
use mathlib.Core.Path.{◌≡◌, refl, sym, ap, ◌∙◌}
use mathlib.Core.Bool.{Bool, true, false, true≢false}
use mathlib.Core.List.{List}
use native.Mathlib.Omega.{arith}
use native.Mathlib.Numerals.{add-one}
use native.Mathlib.Decide.{dec_lt}
use lib.ListN.{length}
use Rattle.std.specs.Prelude.{Some}
use Rattle.sets.specs.Member.{width, has}
use Rattle.table.specs.Limits.{most_tasks}
use Rattle.table.specs.Table.{Table, tasks_of}
use Rattle.machine.specs.Order.{row_of, who_runs}
use Rattle.machine.specs.Reply.{EventReply, idle}
use Rattle.machine.specs.Machine.{released, locked, unlocked, cleared}
use Rattle.machine.specs.declared.Job.{Job}
use Rattle.machine.specs.declared.Kept.{Kept}
use Rattle.dispatch.specs.State.{table_in}
use Rattle.dispatch.specs.Torn.{torn}
use Rattle.dispatch.specs.Heard.{Heard}
use Rattle.dispatch.specs.declared.State.{State}
use Rattle.runs.specs.Run.{Event, release}
use Rattle.demand3.specs.Demand3.{state_at, event_at, reply_to, turn_in}
use Rattle.machine.proofs.Moves.{turn_by, Moving, releases, locks, unlocks, finishes}
use Rattle.runs.proofs.Moves.{Moved, refuses, accepts, moves}
use Rattle.machine.proofs.Rows.{Changed, released_changes, locked_changes, unlocked_changes, cleared_changes}
use Rattle.demand3.proofs.States.{state_next, state_last}

-- What is read of a reachable state.
pub record Good (table : Table) (s : State) : Type 0 where
  pub whole : torn s ≡ false
  pub same : table_in s ≡ table
  pub rows : length s.kept.rows ≡ most_tasks
  pub below : (i : ℕ) → has s.kept.ready i ≡ true → i < tasks_of table
  pub number : (i : ℕ) → has s.kept.ready i ≡ true → (row_of s.kept i).number < s.kept.count
  pub numbers : (i j : ℕ) → has s.kept.ready i ≡ true → has s.kept.ready j ≡ true →
      (row_of s.kept i).number ≡ (row_of s.kept j).number → i ≡ j
  pub who : (i : ℕ) → who_runs s.kept ≡ Some i → has s.kept.ready i ≡ true

changed_to : {kept next other : Kept} {i : ℕ} {job : Job} {on : Bool} → other ≡ next → Changed kept next i job on → Changed kept other i job on
changed_to e c = rw e c

-- It is refused, or there is no event: nothing changes and nobody is named.
pub record Quiet (ws : List ℕ) (events : List Event) (p : ℕ) : Type 0 where
  pub same : state_at ws events (suc p) ≡ state_at ws events p
  pub nobody : p < length events → turn_in (reply_to ws events p) ≡ idle

-- It is accepted: the reply names who runs after it.
pub record Heeded (ws : List ℕ) (events : List Event) (p : ℕ) : Type 0 where
  pub happened : p < length events
  pub names : turn_in (reply_to ws events p) ≡ turn_by who_runs (state_at ws events (suc p)).kept

-- A release: a new job in the row of a task that had none, with the count for number.
pub record Releasing (ws : List ℕ) (events : List Event) (p : ℕ) : Type 0 where
  pub heeded : Heeded ws events p
  pub task : ℕ
  pub time : ℕ
  pub job : Job
  pub event : event_at events p ≡ release task time
  pub none : has (state_at ws events p).kept.ready task ≡ false
  pub changes : Changed (state_at ws events p).kept (state_at ws events (suc p)).kept task job true
  pub number : job.number ≡ (state_at ws events p).kept.count
  pub place : job.place ≡ 0
  pub count : (state_at ws events (suc p)).kept.count ≡ suc (state_at ws events p).kept.count

-- A step of the running job, which stays the job that it was or is ready no more.
pub record Stepping (ws : List ℕ) (events : List Event) (p : ℕ) : Type 0 where
  pub heeded : Heeded ws events p
  pub task : ℕ
  pub job : Job
  pub on : Bool
  pub runs : who_runs (state_at ws events p).kept ≡ Some task
  pub changes : Changed (state_at ws events p).kept (state_at ws events (suc p)).kept task job on
  pub number : on ≡ true → job.number ≡ (row_of (state_at ws events p).kept task).number
  pub base : on ≡ true → job.base ≡ (row_of (state_at ws events p).kept task).base
  pub count : (state_at ws events (suc p)).kept.count ≡ (state_at ws events p).kept.count

pub data Passed (ws : List ℕ) (events : List Event) (p : ℕ) : Type 0 where
  quiet : Quiet ws events p → Passed ws events p
  releasing : Releasing ws events p → Passed ws events p
  stepping : Stepping ws events p → Passed ws events p

module _ (ws : List ℕ) (events : List Event) (table : Table) (tasks : tasks_of table ≤ most_tasks)
    (good : (p : ℕ) → Good table (state_at ws events p)) where
  -- A ready or released task has a row, and a bit in a set.
  row_there : (p i : ℕ) → i < tasks_of (table_in (state_at ws events p)) → i < length (state_at ws events p).kept.rows
  row_there p i h = rw (good p).rows (omega (arith, rw (good p).same at h))

  bit_there : (p i : ℕ) → i < tasks_of (table_in (state_at ws events p)) → i < width
  bit_there p i h = omega (arith, rw (good p).same at h)

  running_there : (p i : ℕ) → who_runs (state_at ws events p).kept ≡ Some i → i < tasks_of (table_in (state_at ws events p))
  running_there p i e = rw (good p).same ((good p).below i ((good p).who i e))

  accepted : (p : ℕ) (e : Event) → event_at events p ≡ e → (next : Kept) (said : EventReply) →
      Moving who_runs (table_in (state_at ws events p)) (state_at ws events p).kept e next said →
      (state_at ws events (suc p)).kept ≡ next → (turn_in said ≡ turn_by who_runs next → Heeded ws events p) → Passed ws events p
  unfolding released locked unlocked cleared
  accepted p e same next said (releases i time free) n heeded = releasing (record {
    heeded = heeded refl;
    task = i;
    time = time;
    job = _;
    event = same;
    none = free.idle;
    changes = changed_to n
        (released_changes (table_in (state_at ws events p)) (state_at ws events p).kept i time (row_there p i free.below) (bit_there p i free.below));
    number = refl;
    place = refl;
    count = ap (λ (z : Kept). z.count) n ∙ add-one (state_at ws events p).kept.count;
  })
  accepted p e same next said (locks i r l time by nx none) n heeded = stepping (record {
    heeded = heeded refl;
    task = i;
    job = _;
    on = true;
    runs = by.runs;
    changes = changed_to n
        (locked_changes (table_in (state_at ws events p)) (state_at ws events p).kept i time (row_there p i (running_there p i by.runs)) r
        ((good p).who i by.runs));
    number = λ o. refl;
    base = λ o. refl;
    count = ap (λ (z : Kept). z.count) n;
  })
  accepted p e same next said (unlocks i time by nx) n heeded = stepping (record {
    heeded = heeded refl;
    task = i;
    job = _;
    on = true;
    runs = by.runs;
    changes = changed_to n
        (unlocked_changes (table_in (state_at ws events p)) (state_at ws events p).kept i time (row_there p i (running_there p i by.runs))
        ((good p).who i by.runs));
    number = λ o. refl;
    base = λ o. refl;
    count = ap (λ (z : Kept). z.count) n;
  })
  accepted p e same next said (finishes i time by nx) n heeded = stepping (record {
    heeded = heeded refl;
    task = i;
    job = _;
    on = false;
    runs = by.runs;
    changes = changed_to n
        (cleared_changes (table_in (state_at ws events p)) (state_at ws events p).kept i time (row_there p i (running_there p i by.runs))
        (bit_there p i (running_there p i by.runs)));
    number = λ o. absurd (true≢false (sym o));
    base = λ o. absurd (true≢false (sym o));
    count = ap (λ (z : Kept). z.count) n;
  })

  passed_one : (p : ℕ) → p < length events → Moved (state_at ws events p) (event_at events p) → Passed ws events p
  passed_one p h (refuses number why e) =
      quiet (record { same = state_next ws events p h ∙ ap (λ (a : Heard). a.state) e; nobody = λ l. ap (λ (a : Heard). turn_in a.said) e })
  passed_one p h (accepts next said move e) =
      let kept : (state_at ws events (suc p)).kept ≡ next = ap (λ (s : State). s.kept) (state_next ws events p h) ∙ ap (λ (a : Heard). a.state.kept) e in
      accepted p (event_at events p) refl next said move kept
      (λ t. record { happened = h; names = ap (λ (a : Heard). turn_in a.said) e ∙ t ∙ ap (turn_by who_runs) (sym kept) })

  -- Every event passes in one of the three ways.
  pub passed : (p : ℕ) → Passed ws events p
  passed p = pick (dec_lt p (length events))
    where
      pick : Dec (p < length events) → Passed ws events p
      pick (yes h) = passed_one p h (moves (state_at ws events p) (good p).whole (event_at events p))
      pick (no n) = quiet (record { same = state_last ws events p (omega arith); nobody = λ l. absurd (n l) })
