-- Demand 3 does not speak of nothing: in document 01's morning M12 a job is blocked at two positions, with a position between at which it is not, and it has its
-- first turn when the blocker leaves its section. Each fact is computed from the definitions. The numbers here are also the reason why no stronger
-- statement holds: the blocker entered at the event right before the release, and the event right after a blocked position is the first turn.
-- Assumes nothing.
use Prim.Native.Nat.{ℕ}
use mathlib.Core.Path.{◌≡◌, refl}
use mathlib.Core.List.{List, [], ◌∷◌}
use lib.Dec.{lit<}
use Rattle.sets.specs.Member.{bit, has, with_of, without_of}
use Rattle.numbers.specs.Any.{any_below}
use Rattle.table.specs.Table.{Table}
use Rattle.table.specs.Check.{Checked, sound, check_of, word_in, plan_in, task_in, tasks_in}
use Rattle.table.specs.Check as check
use Rattle.table.specs.Held.{held_from, holds}
use Rattle.table.specs.Floor.{locks, deadlines_of, least}
use Rattle.table.specs.Map.{padded, next_of}
use Rattle.machine.specs.Order.{by_deadline, best_from, who_runs}
use Rattle.machine.specs.Machine.{released, locked, unlocked, cleared, lateness, turn_of}
use Rattle.machine.specs.Moves.{accepted}
use Rattle.machine.specs.Away.{given, none_ready, held_by_another, locks_held}
use Rattle.dispatch.specs.State.{table_in, fresh_state, zero_state}
use Rattle.torn.specs.Torn.{torn_table, torn_clock, torn_ready, torn_place, torn_times, torn_last, torn_count, torn_numbers, torn_by, torn_of}
use Rattle.dispatch.specs.Torn.{torn}
use Rattle.dispatch.specs.Dispatch.{start_of, release_of, step_of}
use Rattle.runs.specs.Run.{Event, release, step, state_after}
use Rattle.demand3.specs.Demand3.{state_at, Running, Blocked, Named, Released, Entered, Demand3}
use Rattle.demand3.proofs.Demand3.{demand3}

-- A list of words that passes the check.
pub data Checks : Checked → Type 0 where
  passes : (table : Table) → Checks (sound table)

-- "M12, the tie": one resource; task 0 D 20 and task 1 D 30, each with one section of length 2 on it; task 2 D 5, no steps. Each T 100, C 5.
abbrev pub words : List ℕ
words =
    3 ∷ 1 ∷ 100 ∷ 20 ∷ 5 ∷ 2 ∷ 1 ∷ 0 ∷ 2 ∷ 2 ∷ 0 ∷ 0 ∷ 100 ∷ 30 ∷ 5 ∷ 2 ∷ 1 ∷ 0 ∷ 2 ∷ 2 ∷ 0 ∷ 0 ∷ 100 ∷ 5 ∷ 5 ∷ 0 ∷ []

-- Its events, and one more: the unlock, at 5.
abbrev pub events : List Event
events = release 1 0 ∷ step 1 ∷ release 0 1 ∷ release 2 2 ∷ step 4 ∷ step 5 ∷ []

-- The words pass the check, so demand 3 speaks of this run.
pub checked : Checks (check_of words)
unfolding check_of word_in plan_in task_in tasks_in check.step_in holds
checked = passes _

pub demanded : Demand3 words
demanded = go (check_of words) refl checked
  where
    go : (c : Checked) → check_of words ≡ c → Checks c → Demand3 words
    go c e (passes table) = demand3 words table e

-- What the statement's notions come to in this run. Job 0 is task 1's, job 1 task 0's, job 2 task 2's.
pub record Witnessed : Type 0 where
  -- job 0 enters its outermost section at event 1
  pub entered : Entered words events 1 0
  -- job 1 is released at event 2, the very next
  pub released : Released words events 2 1
  -- and is blocked
  pub blocked : Blocked (state_at words events 3) 1 0
  -- at the next position another job runs, which comes before both
  pub between : Running (state_at words events 4) 2 2
  -- then it is blocked again
  pub again : Blocked (state_at words events 5) 1 0
  -- and the very next event is its first turn
  pub turn : Named words events 5 1

pub witnessed : Witnessed
unfolding state_at state_after bit has with_of without_of any_below check_of word_in plan_in task_in tasks_in check.step_in held_from holds locks deadlines_of
    least padded next_of best_from who_runs released locked unlocked cleared lateness turn_of accepted given none_ready held_by_another locks_held table_in fresh_state
    zero_state torn_table torn_clock torn_ready torn_place torn_times torn_last torn_count torn_numbers torn_by torn_of torn start_of release_of step_of
witnessed = record {
  entered = record {
    happened = lit< tt;
    before = record { task = 1; ready = record { task = lit< tt; ready = refl; number = refl }; nothing = refl };
    after = record { task = 1; ready = record { task = lit< tt; ready = refl; number = refl }; something = refl };
  };
  released = record {
    happened = lit< tt;
    task = 0;
    time = 1;
    event = refl;
    before = refl;
    after = refl;
    ready = record { task = lit< tt; ready = refl; number = refl };
  };
  blocked = record {
    task = 0;
    other = 1;
    ready = record { task = lit< tt; ready = refl; number = refl };
    running = record { runs = refl; number = refl };
    after = by_deadline (lit< tt);
  };
  between = record { runs = refl; number = refl };
  again = record {
    task = 0;
    other = 1;
    ready = record { task = lit< tt; ready = refl; number = refl };
    running = record { runs = refl; number = refl };
    after = by_deadline (lit< tt);
  };
  turn = record {
    happened = lit< tt;
    task = 0;
    deadline = 21;
    names = refl;
    ready = record { task = lit< tt; ready = refl; number = refl };
  };
}
