-- The five numbers of an answer: document 01's number, or what was accepted; a value with it (a refusal's place, LATE's t, a lateness); and who runs.
-- Numbers that an answer does not speak of are 0. Assumes nothing.
use Rattle.std.specs.Prelude.{ℕ, suc, ◌-◌, ◌^◌, List, [], ◌∷◌, ℤ, pos, negsuc}
use Rattle.table.specs.Said as table
use Rattle.machine.specs.Reply.{Turn, runs, idle, EventReply, refused, went_on, finished}
use Rattle.verdict.specs.Verdict as verdict

-- The list is sound, the state is started, the event is accepted.
abbrev pub ACCEPTED : ℕ
ACCEPTED = 0

-- The event is accepted, and a job has finished with a lateness. No number of document 01 is 64.
abbrev pub FINISHED : ℕ
FINISHED = 64

-- A signed number in 64 bits, as two's complement has it: what C reads by a cast to `int64_t`.
abbrev pub bits_of : ℤ → ℕ
bits_of (pos n) = n
bits_of (negsuc n) = 2 ^ 64 - suc n

abbrev pub answer_of : ℕ → ℕ → List ℕ
answer_of number value = number ∷ value ∷ 0 ∷ 0 ∷ 0 ∷ []

-- "'runs' with task number and active deadline, or 'idle'"
abbrev pub turn_answer : ℕ → ℕ → Turn → List ℕ
turn_answer number value (runs i deadline) = number ∷ value ∷ 1 ∷ i ∷ deadline ∷ []
turn_answer number value idle = answer_of number value

-- An event's answer: a refusal's "number alone"; "a finish adds its lateness".
abbrev pub event_answer : EventReply → List ℕ
event_answer (refused number) = answer_of number 0
event_answer (went_on turn) = turn_answer ACCEPTED 0 turn
event_answer (finished late turn) = turn_answer FINISHED (bits_of late) turn

-- The check's answer, and a start's: "its number and place".
abbrev pub check_answer : table.CheckReply → List ℕ
check_answer table.passes = answer_of ACCEPTED 0
check_answer (table.says number place) = answer_of number place

-- The verdict's answer.
abbrev pub verdict_answer : verdict.VerdictReply → List ℕ
verdict_answer (verdict.says number value) = answer_of number value
