-- What an answer of this crate says, in document 01's numbers and values. Assumes nothing.
use Rattle.std.specs.Prelude.{ℕ, ℤ, Option, Some, None, Result, Ok, Err}
use Rattle.table.specs.Said.{said_of}
use Rattle.table.specs.Said as table
use Rattle.machine.specs.Reply.{runs, idle, EventReply, refused, went_on, finished}
use Rattle.numbers.specs.Answers.{TORN, BACK, END, NOBODY, ACTIVE, EARLY, HELD}
use Rattle.machine.specs.Reply as reply
use Rattle.machine.specs.Moves as machine
use Rattle.machine.specs.declared.Kept.{Kept}
use Rattle.dispatch.specs.declared.State.{State}
use Rattle.dispatch.specs.declared.Turn.{Turn}
use Rattle.dispatch.specs.declared.Refusal.{Refusal}
use Rattle.dispatch.specs.declared.Refusal.TheVariants.{Torn, Back, End, Nobody, Active, Early, Held}
use Rattle.dispatch.specs.declared.Accepted.{Accepted}
use Rattle.dispatch.specs.declared.Answer.{Answer}
use Rattle.dispatch.specs.declared.Outcome.{Outcome}
use Rattle.dispatch.specs.declared.Started.{Started}

-- The number of each refusal.
abbrev pub number_of : Refusal → ℕ
number_of Torn = TORN
number_of Back = BACK
number_of End = END
number_of Nobody = NOBODY
number_of Active = ACTIVE
number_of Early = EARLY
number_of Held = HELD

abbrev pub turn_said : Option Turn → reply.Turn
turn_said (Some turn) = runs turn.task turn.deadline
turn_said None = idle

-- Who runs; "a finish adds its lateness".
abbrev pub went_with : Option ℤ → reply.Turn → EventReply
went_with None turn = went_on turn
went_with (Some late) turn = finished late turn

abbrev pub accepted_said : Accepted → EventReply
accepted_said accepted = went_with accepted.late (turn_said accepted.turn)

abbrev pub reply_said : Result Accepted Refusal → EventReply
reply_said (Ok accepted) = accepted_said accepted
reply_said (Err refusal) = refused (number_of refusal)

-- The state that an event hands back, and what it says.
pub record Heard : Type 0 where
  pub state : State
  pub said : EventReply

abbrev pub heard_of : Answer → Heard
heard_of answer = record { state = answer.state; said = reply_said answer.reply }

-- What is kept after an event that isn't turned away and what it says, as the machine has them.
abbrev pub went_of : Outcome → machine.Outcome
went_of out = record { kept = out.kept; said = accepted_said out.accepted }

-- The same of any event on what is kept: "The reply is the number alone; the state comes back equal, clock included."
abbrev pub outcome_of : Kept → Result Outcome Refusal → machine.Outcome
outcome_of kept (Ok out) = went_of out
outcome_of kept (Err refusal) = record { kept = kept; said = refused (number_of refusal) }

-- The state that a start hands back, and what the check says.
pub record Begun : Type 0 where
  pub state : State
  pub said : table.CheckReply

abbrev pub begun_of : Started → Begun
begun_of started = record { state = started.state; said = said_of started.finding }
