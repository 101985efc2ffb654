-- Demand 3: a table that passes the check never sticks. Every notion of the statement stands here with document 01's sentence beside it, and the
-- statement is the record at the end, with a field for each sentence.
-- A run is a fresh start and any list of events, refused ones included. Position p is after the first p events; event p, counted from 0, leads from position p
-- to position p + 1. A job goes by its release number, since a task has many jobs over time.
-- The statement asks nothing of C, of the sections' lengths or of the times between events. Assumes nothing.
use Rattle.std.specs.Prelude.{ℕ, suc, ◌≤◌, ◌<◌, ◌≡◌, true, false, List, ◌⊎◌, length, get_or, take, Some}
use Rattle.sets.specs.Member.{has}
use Rattle.table.specs.Table.{tasks_of}
use Rattle.table.specs.Check.{nothing_held}
use Rattle.table.specs.Held.{Section, holds}
use Rattle.machine.specs.Order.{Sooner, row_of, who_runs}
use Rattle.machine.specs.Reply.{Turn, runs, idle, EventReply, refused, went_on, finished}
use Rattle.numbers.specs.Answers.{TORN, BACK, END, HELD}
use Rattle.machine.specs.Machine.{held_of}
use Rattle.machine.specs.declared.Job.{Job}
use Rattle.dispatch.specs.State.{table_in}
use Rattle.dispatch.specs.declared.State.{State}
use Rattle.runs.specs.Run.{Event, release, step, heard, state_after, begin}

-- The state at position p of a run.
unfoldable pub state_at : List ℕ → List Event → ℕ → State
state_at ws events p = state_after (begin ws) (take p events)

-- Event p of a run; it is asked for only where p is below the number of events.
abbrev pub event_at : List Event → ℕ → Event
event_at events p = get_or events p (step 0)

-- What event p is answered.
abbrev pub reply_to : List ℕ → List Event → ℕ → EventReply
reply_to ws events p = (heard (state_at ws events p) (event_at events p)).said

-- The job with release number x is ready, and is task i's.
pub record Ready (s : State) (i x : ℕ) : Type 0 where
  pub task : i < tasks_of (table_in s)
  pub ready : has s.kept.ready i ≡ true
  pub number : (row_of s.kept i).number ≡ x

-- The job with release number y is the running one, and is task j's.
pub record Running (s : State) (j y : ℕ) : Type 0 where
  pub runs : who_runs s.kept ≡ Some j
  pub number : (row_of s.kept j).number ≡ y

-- "the order by base deadline and then release"
abbrev pub Before : Job → Job → Type 0
Before x y = Sooner x.base x.number y.base y.number

-- "A job is blocked while it is ready and the running job comes after it in the order by base deadline and then release": job x is blocked, by job y.
pub record Blocked (s : State) (x y : ℕ) : Type 0 where
  pub task : ℕ
  pub other : ℕ
  pub ready : Ready s task x
  pub running : Running s other y
  pub after : Before (row_of s.kept task) (row_of s.kept other)

-- Who an event's reply says is running; a refusal says it of nobody.
abbrev pub turn_in : EventReply → Turn
turn_in (refused number) = idle
turn_in (went_on turn) = turn
turn_in (finished late turn) = turn

-- Event q is accepted and its reply names job x as running.
pub record Named (ws : List ℕ) (events : List Event) (q x : ℕ) : Type 0 where
  pub happened : q < length events
  pub task : ℕ
  pub deadline : ℕ
  pub names : turn_in (reply_to ws events q) ≡ runs task deadline
  pub ready : Ready (state_at ws events (suc q)) task x

-- "A job's first turn is the first accepted event whose reply names it as running; before and after go by the order of accepted events." Job x has had its
-- first turn before or at position p: one of the first p events has named it.
pub record HadTurn (ws : List ℕ) (events : List Event) (p x : ℕ) : Type 0 where
  pub event : ℕ
  pub before : event < p
  pub named : Named ws events event x

-- "An accepted release gives its job, as release number, the count of accepted releases before it": event m is the release that made job x.
pub record Released (ws : List ℕ) (events : List Event) (m x : ℕ) : Type 0 where
  pub happened : m < length events
  pub task : ℕ
  pub time : ℕ
  pub event : event_at events m ≡ release task time
  pub before : (state_at ws events m).kept.count ≡ x
  pub after : (state_at ws events (suc m)).kept.count ≡ suc x
  pub ready : Ready (state_at ws events (suc m)) task x

-- "What a job holds is read from its plan and place": the sections that task i's job holds.
abbrev pub held : State → ℕ → List Section
held s i = held_of (table_in s) s.kept i

-- Job y is ready and holds nothing.
pub record Free (s : State) (y : ℕ) : Type 0 where
  pub task : ℕ
  pub ready : Ready s task y
  pub nothing : nothing_held (held s task) ≡ true

-- Job y is ready and holds something.
pub record Holding (s : State) (y : ℕ) : Type 0 where
  pub task : ℕ
  pub ready : Ready s task y
  pub something : nothing_held (held s task) ≡ false

-- Job y enters an outermost section at event q: before it, it holds nothing, and after it something.
pub record Entered (ws : List ℕ) (events : List Event) (q y : ℕ) : Type 0 where
  pub happened : q < length events
  pub before : Free (state_at ws events q) y
  pub after : Holding (state_at ws events (suc q)) y

-- Job y is, at position p, inside the outermost section that it entered at event q, and has not left it between: at every position since, it holds something.
pub record Inside (ws : List ℕ) (events : List Event) (q p y : ℕ) : Type 0 where
  pub since : q < p
  pub entered : Entered ws events q y
  pub between : (r : ℕ) → q < r → r ≤ p → Holding (state_at ws events r) y

-- What is told of job y that blocks job x at position p: it is inside an outermost section that it entered at an event before x's release.
pub record EnteredBefore (ws : List ℕ) (events : List Event) (p x y : ℕ) : Type 0 where
  pub entry : ℕ
  pub release : ℕ
  pub inside : Inside ws events entry p y
  pub released : Released ws events release x
  pub before : entry < release
  pub since : release < p

-- The same blocker in the same outermost section, which is the one that was entered at the same event.
pub record Same (y z q r : ℕ) : Type 0 where
  pub job : y ≡ z
  pub entry : q ≡ r

-- Demand 3, of every run from the words ws and every position in it.
pub record Demand3 (ws : List ℕ) : Type 0 where
  -- No reply is TORN: a state that our own calls handed out is never called torn.
  pub never_torn : (events : List Event) (p : ℕ) → p < length events → ¬ (reply_to ws events p ≡ refused TORN)
  -- "HELD can be met in a made-up state; demand 3 says it is never met from a fresh start."
  pub never_held : (events : List Event) (p : ℕ) → p < length events → ¬ (reply_to ws events p ≡ refused HELD)
  -- While a job is ready, a step is refused only by BACK or END.
  pub never_stuck : (events : List Event) (p i x time number : ℕ) → p < length events → event_at events p ≡ step time →
      Ready (state_at ws events p) i x → reply_to ws events p ≡ refused number → (number ≡ BACK) ⊎ (number ≡ END)
  -- A blocked job has not had its first turn, before or at that position.
  pub before_first_turn : (events : List Event) (p x y : ℕ) → Blocked (state_at ws events p) x y → ¬ HadTurn ws events p x
  -- The running job is inside an outermost section that it entered at an event before the blocked job's release, and has not left it between.
  pub entered_before : (events : List Event) (p x y : ℕ) → Blocked (state_at ws events p) x y → EnteredBefore ws events p x y
  -- At any two positions at which a job is blocked, it is by the same job in the same outermost section.
  pub same_blocker : (events : List Event) (p p' q q' x y y' : ℕ) →
      Blocked (state_at ws events p) x y → Inside ws events q p y →
      Blocked (state_at ws events p') x y' → Inside ws events q' p' y' → Same y y' q q'
  -- Mutual exclusion: two ready jobs never hold the same resource.
  pub mutual_exclusion : (events : List Event) (p i j x y r : ℕ) → Ready (state_at ws events p) i x → Ready (state_at ws events p) j y →
      holds (held (state_at ws events p) i) r ≡ true → holds (held (state_at ws events p) j) r ≡ true → x ≡ y
  -- No deadlock: where a job is ready, a ready job runs.
  pub no_deadlock : (events : List Event) (p i x : ℕ) → Ready (state_at ws events p) i x →
      (j : ℕ) × (y : ℕ) × Ready (state_at ws events p) j y × Running (state_at ws events p) j y
  -- At most one blocker at any moment, whichever jobs are blocked.
  pub one_blocker : (events : List Event) (p x y x' y' : ℕ) → Blocked (state_at ws events p) x y → Blocked (state_at ws events p) x' y' → y ≡ y'
