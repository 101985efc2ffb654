-- The dispatcher's three calls, whole: what each hands back and says, for every list of words, every state, every task and every time. TORN goes first,
-- and then the machine. Assumes nothing.
use Rattle.std.specs.Prelude.{ℕ, List, ◌∷◌, length}
use Rattle.table.specs.Check.{Checked, sound, refused, check_of}
use Rattle.table.specs.Said.{passes, says}
use Rattle.machine.specs.Event.{Event, release, step}
use Rattle.machine.specs.Moves.{Outcome, accepted}
use Rattle.machine.specs.Away.{Ground, given, grounds_of}
use Rattle.dispatch.specs.State.{state_of, table_in, fresh_state, zero_state}
use Rattle.dispatch.specs.Torn.{torn_ground}
use Rattle.dispatch.specs.Heard.{Heard, Begun}
use Rattle.dispatch.specs.declared.State.{State}

-- "A refused start gives the number, the place and a state whose numbers are all zero."
abbrev pub start_from : Checked → List ℕ → Begun
start_from (sound t) ws = record { state = fresh_state ws (length ws); said = passes }
start_from (refused number place) ws = record { state = zero_state; said = says number place }

unfoldable pub start_of : List ℕ → Begun
start_of ws = start_from (check_of ws) ws

-- The state with what is kept after an event; its words stay.
abbrev pub after : State → Outcome → Heard
after s out = record { state = state_of s.words s.length out.kept; said = out.said }

-- "When an event is turned away": the whole table, for an event on a state.
abbrev pub grounds_in : State → Event → List Ground
grounds_in s e = torn_ground s ∷ grounds_of (table_in s) s.kept e

-- An event on a state: tests, move, turn.
abbrev pub event_of : State → Event → Heard
event_of s e = after s (given (grounds_in s e) s.kept (accepted (table_in s) s.kept e))

-- A release of task i at a time.
unfoldable pub release_of : State → ℕ → ℕ → Heard
release_of s i time = event_of s (release i time)

-- The running job's next step at a time.
unfoldable pub step_of : State → ℕ → Heard
step_of s time = event_of s (step time)
