-- The four moves of document 01's machine. An event that isn't turned away is one of them: the move, and then the turn. Assumes nothing.
use Rattle.std.specs.Prelude.{ℕ, Option, Some, None}
use Rattle.table.specs.Table.{Table}
use Rattle.table.specs.declared.Next.{Next}
use Rattle.table.specs.declared.Next.TheVariants.{Lock, Unlock, Finish}
use Rattle.machine.specs.Order.{row_of, who_runs}
use Rattle.machine.specs.Reply.{Turn, EventReply, went_on, finished}
use Rattle.machine.specs.Event.{Event, release, step, time_of}
use Rattle.machine.specs.Machine.{released, locked, unlocked, cleared, lateness, turn_of, next_in}
use Rattle.machine.specs.declared.Kept.{Kept}

-- Each with its task, and a lock with its resource.
pub data Move : Type 0 where
  to_release : ℕ → Move
  to_lock : ℕ → ℕ → Move
  to_unlock : ℕ → Move
  to_finish : ℕ → Move

-- What is kept after a move at a time.
abbrev pub moved : Table → Kept → ℕ → Move → Kept
moved table kept time (to_release i) = released table kept i time
moved table kept time (to_lock i r) = locked table kept i r time
moved table kept time (to_unlock i) = unlocked table kept i time
moved table kept time (to_finish i) = cleared kept i time

-- What it answers, of what was kept before it and of who runs after it: "a finish adds its lateness".
abbrev pub said_after : Kept → ℕ → Move → Turn → EventReply
said_after kept time (to_release i) turn = went_on turn
said_after kept time (to_lock i r) turn = went_on turn
said_after kept time (to_unlock i) turn = went_on turn
said_after kept time (to_finish i) turn = finished (lateness time (row_of kept i).base) turn

-- What is kept after an event, and what the event answers.
pub record Outcome : Type 0 where
  pub kept : Kept
  pub said : EventReply

-- The move, and then the turn.
abbrev pub carried_out : Table → Kept → ℕ → Move → Outcome
carried_out table kept time move = record {
  kept = moved table kept time move;
  said = said_after kept time move (turn_of (moved table kept time move));
}

-- The running job's task. It is asked for only where a job is ready.
abbrev pub running : Option ℕ → ℕ
running (Some i) = i
running None = 0

abbrev pub step_move : ℕ → Next → Move
step_move i (Lock r l) = to_lock i r
step_move i Unlock = to_unlock i
step_move i Finish = to_finish i

abbrev pub next_move : Table → Kept → ℕ → Move
next_move table kept i = step_move i (next_in table kept i)

-- Which move an event is that isn't turned away: a step by who runs, and by what its plan says next.
abbrev pub move_of : Table → Kept → Event → Move
move_of table kept (release i time) = to_release i
move_of table kept (step time) = next_move table kept (running (who_runs kept))

-- What an event does and answers if no ground applies.
unfoldable pub accepted : Table → Kept → Event → Outcome
accepted table kept e = carried_out table kept (time_of e) (move_of table kept e)
