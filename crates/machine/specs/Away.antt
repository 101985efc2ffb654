-- "When an event is turned away" (document 01), from BACK on: the rows of its table are the definition. TORN speaks of the words too, and `dispatch` puts its
-- row in front. Assumes nothing.
use Rattle.std.specs.Prelude.{ℕ, ◌+◌, ◌≡◌, List, [], ◌∷◌, Bool, true, false, cond, not, ◌&&◌, ltb, leb, eqb, Option, Some, None}
use Rattle.sets.specs.Member.{has}
use Rattle.numbers.specs.Any.{any_below}
use Rattle.numbers.specs.Answers.{BACK, END, NOBODY, ACTIVE, EARLY, HELD}
use Rattle.table.specs.Limits.{most_tasks, end_of_time}
use Rattle.table.specs.Table.{Table, tasks_of, task_of}
use Rattle.table.specs.Held.{holds}
use Rattle.table.specs.declared.Next.{Next}
use Rattle.table.specs.declared.Next.TheVariants.{Lock, Unlock, Finish}
use Rattle.machine.specs.Order.{row_of, who_runs}
use Rattle.machine.specs.Reply.{refused}
use Rattle.machine.specs.Event.{Event, release, step}
use Rattle.machine.specs.Machine.{held_of, next_in}
use Rattle.machine.specs.Moves.{Outcome, accepted}
use Rattle.machine.specs.declared.Kept.{Kept}

-- A row of that table: the number, and whether its ground applies.
pub record Ground : Type 0 where
  pub number : ℕ
  pub applies : Bool

-- "The reply is the number alone; the state comes back equal, clock included."
abbrev pub turned_away : Kept → ℕ → Outcome
turned_away kept number = record { kept = kept; said = refused number }

-- "Checks go from top to bottom; the first that applies is given": the first row whose ground holds turns the event away, and where none holds, what an
-- accepted event does is done.
unfoldable pub given : List Ground → Kept → Outcome → Outcome
given [] kept out = out
given (ground ∷ below) kept out = cond ground.applies (turned_away kept ground.number) (given below kept out)

-- The same as a relation: the number of a row whose ground holds, while none above it does.
pub data Given (number : ℕ) : List Ground → Type 0 where
  here : {ground : Ground} {below : List Ground} → ground.number ≡ number → ground.applies ≡ true → Given number (ground ∷ below)
  later : {ground : Ground} {below : List Ground} → ground.applies ≡ false → Given number below → Given number (ground ∷ below)

-- No ground holds.
pub data NoGround : List Ground → Type 0 where
  none : NoGround []
  more : {ground : Ground} {below : List Ground} → ground.applies ≡ false → NoGround below → NoGround (ground ∷ below)

-- ---- a release

-- "less than T after the task's last accepted release", of a task that has had one
abbrev pub early : Table → Kept → ℕ → ℕ → Bool
early table kept i time = has kept.had i && ltb time ((row_of kept i).last + (task_of table i).T)

-- "the time is before the clock (equal is allowed)"; "the time is 2^40 or more"; "release: no such task"; "release: the task's job is still ready";
-- "release: less than T after the task's last accepted release"
abbrev pub release_grounds : Table → Kept → ℕ → ℕ → List Ground
release_grounds table kept i time =
    record { number = BACK; applies = ltb time kept.clock } ∷
    record { number = END; applies = leb end_of_time time } ∷
    record { number = NOBODY; applies = leb (tasks_of table) i } ∷
    record { number = ACTIVE; applies = has kept.ready i } ∷
    record { number = EARLY; applies = early table kept i time } ∷
    []

-- ---- a step

-- "Step: no job is ready"
unfoldable pub none_ready : Kept → Bool
none_ready kept = not (any_below most_tasks (λ j. has kept.ready j))

-- Whether another ready job than task i's holds a resource.
unfoldable pub held_by_another : Table → Kept → ℕ → ℕ → Bool
held_by_another table kept i r =
    any_below most_tasks (λ j. not (eqb j i) && (has kept.ready j && holds (held_of table kept j) r))

-- "step: the next step locks what another ready job holds"
abbrev pub next_held : Table → Kept → ℕ → Next → Bool
next_held table kept i (Lock r l) = held_by_another table kept i r
next_held table kept i Unlock = false
next_held table kept i Finish = false

abbrev pub locks_held_by : Table → Kept → Option ℕ → Bool
locks_held_by table kept (Some i) = next_held table kept i (next_in table kept i)
locks_held_by table kept None = false

unfoldable pub locks_held : Table → Kept → Bool
locks_held table kept = locks_held_by table kept (who_runs kept)

-- "the time is before the clock (equal is allowed)"; "the time is 2^40 or more"; "Step: no job is ready"; "step: the next step locks what another ready job
-- holds"
abbrev pub step_grounds : Table → Kept → ℕ → List Ground
step_grounds table kept time =
    record { number = BACK; applies = ltb time kept.clock } ∷
    record { number = END; applies = leb end_of_time time } ∷
    record { number = NOBODY; applies = none_ready kept } ∷
    record { number = HELD; applies = locks_held table kept } ∷
    []

-- ---- an event

abbrev pub grounds_of : Table → Kept → Event → List Ground
grounds_of table kept (release i time) = release_grounds table kept i time
grounds_of table kept (step time) = step_grounds table kept time

-- An event, from BACK on: tests, move, turn.
unfoldable pub event_in : Table → Kept → Event → Outcome
event_in table kept e = given (grounds_of table kept e) kept (accepted table kept e)
