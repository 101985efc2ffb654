-- One line of a script: what is kept after it, and what is answered (docs/SCRIPT.md). Everything that is said comes from the definitions of the crates below.
-- Assumes nothing.
use Rattle.std.specs.Prelude.{◌≡◌, ℕ, suc, ◌+◌, ◌%◌, ◌^◌, List, [], take, replicate, Option, Some, None, Result, Ok, Err}
use Rattle.table.specs.Limits.{room}
use Rattle.table.specs.Said.{check_said}
use Rattle.verdict.specs.Verdict.{verdict_of}
use Rattle.dispatch.specs.State.{zero_state}
use Rattle.dispatch.specs.Dispatch.{start_of, release_of, step_of}
use Rattle.dispatch.specs.declared.State.{State}
use Rattle.text.specs.Bytes.{bytes}
use Rattle.script.specs.Grammar.{command_of, table_of}
use Rattle.text.specs.Room.{written, room_for, Written}
use Rattle.lines.specs.Lines.{line, finding_text, reply_text, verdict_text, wrong_text}
use Rattle.text.specs.declared.Fault.{Fault}
use Rattle.script.specs.declared.Command.{Command}
use Rattle.script.specs.declared.Command.TheVariants.{Table, Check, Start, Release, Step, Verdict, Show}
use Rattle.player.specs.Show.{show_text}
use Rattle.player.specs.declared.Session.{Session}
use Rattle.player.specs.declared.Answered.{Answered}

-- "Any number of words may be lent; no table has more than 834." So words past the 835th change no answer and are not kept.
abbrev pub most_kept : ℕ
most_kept = suc room

-- "Before any `table`, the table is the empty list. Before any `start`, the state is the one whose numbers are all zero."
unfoldable pub first_session : Session
first_session = record { words = replicate most_kept 0; length = 0; state = zero_state; lines = 0 }

-- The table that was lent last.
abbrev pub lent_of : Session → List ℕ
lent_of s = take s.length s.words

-- One more line.
abbrev pub counted_of : Session → Session
counted_of s = record { words = s.words; length = s.length; state = s.state; lines = (s.lines + 1) % 2 ^ 64 }

-- Another table: "A new `table` leaves the state alone until the next `start`."
abbrev pub lending : Session → List ℕ → Session
lending s l = record {
  words = written (table_of l) s.words;
  length = room_for (table_of l) s.words;
  state = s.state;
  lines = s.lines;
}

-- Another state.
abbrev pub with_state : Session → State → Session
with_state s state = record { words = s.words; length = s.length; state = state; lines = s.lines }

-- The session after a command; s has counted the line already.
abbrev pub session_by : Command → Session → List ℕ → Session
session_by (Table count) s l = lending s l
session_by Check s l = s
session_by Start s l = with_state s (start_of (lent_of s)).state
session_by (Release i t) s l = with_state s (release_of s.state i t).state
session_by (Step t) s l = with_state s (step_of s.state t).state
session_by Verdict s l = s
session_by Show s l = s

-- The answer to a command.
abbrev pub answer_by : Command → Session → List ℕ
answer_by (Table count) s = []
answer_by Check s = line (finding_text (bytes "sound") (check_said (lent_of s)))
answer_by Start s = line (finding_text (bytes "started") (start_of (lent_of s)).said)
answer_by (Release i t) s = line (reply_text (release_of s.state i t).said)
answer_by (Step t) s = line (reply_text (step_of s.state t).said)
answer_by Verdict s = line (verdict_text (verdict_of (lent_of s)))
answer_by Show s = show_text s.state

-- A line that says nothing or is no command changes nothing but the count; the first is not answered, the second with its number and what is wrong.
abbrev pub session_from : Result (Option Command) Fault → Session → List ℕ → Session
session_from (Ok (Some command)) s l = session_by command s l
session_from (Ok None) s l = s
session_from (Err fault) s l = s

abbrev pub answer_from : Result (Option Command) Fault → Session → List ℕ
answer_from (Ok (Some command)) s = answer_by command s
answer_from (Ok None) s = []
answer_from (Err fault) s = line (wrong_text s.lines fault)

-- A line.
unfoldable pub session_after : Session → List ℕ → Session
session_after s l = session_from (command_of l) (counted_of s) l

unfoldable pub answer_to : Session → List ℕ → List ℕ
answer_to s l = answer_from (command_of l) (counted_of s)

-- What is handed back: the session, and how much of the text is written.
pub record Plays (s : Session) (text out out' : List ℕ) (r : Answered) : Type 0 where
  pub session : r.session ≡ s
  pub answer : Written text out out' r.bytes
