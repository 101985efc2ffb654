-- Every public call's promise pins its answer. One lemma does the work: a meaning with a way back. Assumes nothing.
use Prim.Native.Nat.{ℕ, min, max}
use mathlib.Core.Path.{◌≡◌, refl, ap, sym, ◌∙◌}
use mathlib.Core.List.{List}
use Rattle.std.specs.Prelude.{Result, Ok}
use Rattle.sets.specs.Member.{width, wide, has, with_of, without_of, size_of}
use Rattle.sets.specs.declared.each.Members.{Members}
use lib.ListN.{length}
use Rattle.table.specs.Limits.{most_tasks}
use Rattle.table.specs.Table.{Table, task_of}
use Rattle.table.specs.Held.{held_by, held_set}
use Rattle.table.specs.Innermost.{innermost_of}
use Rattle.table.specs.Floor.{users_of, floor_of}
use Rattle.table.specs.Map.{table_at, map_of, next_of}
use Rattle.table.specs.Said.{refusal_said, said_of, check_said, Surveyed, survey_said, survey_of}
use Rattle.table.specs.Said as found
use Rattle.table.specs.declared.Map.{Map}
use Rattle.machine.specs.Order.{who_runs}
use Rattle.machine.specs.declared.Kept.{Kept}
use Rattle.torn.specs.Examined.{tested, examined_of}
use Rattle.verdict.specs.Multiple.{divisor_of}
use Rattle.verdict.specs.Verdict.{verdict_of}
use Rattle.verdict.specs.Said.{verdict_said}
use Rattle.verdict.specs.Verdict as judged
use Rattle.dispatch.specs.State.{state_of}
use Rattle.dispatch.specs.Heard.{Heard, number_of, reply_said, outcome_of, heard_of, begun_of}
use Rattle.dispatch.specs.Dispatch.{start_of, release_of, step_of, after}
use Rattle.dispatch.specs.declared.Outcome.{Outcome}
use Rattle.dispatch.specs.declared.State.{State}
use Rattle.board.specs.Calls.{first_number, found_answer, judged_answer, start_image, start_answer, release_image, release_answer, step_image, step_answer, StartLeaves, ReleaseLeaves, StepLeaves}
use Rattle.table.specs.declared.Finding.{Finding}
use Rattle.verdict.specs.declared.Verdict.{Verdict}
use Rattle.dispatch.specs.declared.Refusal.{Refusal}
use Rattle.dispatch.specs.declared.Refusal.TheVariants.{Torn}
use Rattle.dispatch.specs.declared.Accepted.{Accepted}
use Rattle.text.specs.Bytes.{bytes}
use Rattle.text.specs.Room.{written, room_for, Written, lay, past, Laid}
use Rattle.script.specs.Grammar.{command_of, table_of}
use Rattle.lines.specs.Lines.{line, reply_text, finding_text, verdict_text, wrong_text, clock_text, job_text}
use Rattle.text.specs.declared.Fault.{Fault}
use Rattle.lines.specs.declared.Doing.{Doing}
use Rattle.player.specs.Show.{show_text}
use Rattle.player.specs.Play.{first_session, session_after, answer_to, Plays}
use Rattle.player.specs.declared.Session.{Session}
use Rattle.player.specs.declared.Answered.{Answered}
use Rattle.pinned.specs.Pinned.{Pinned, itself}
use Rattle.pinned.proofs.Meaning.{finding_from, tested_from, parts_from, answer_from, started_from, verdict_from}
use Rattle.pinned.proofs.WaysBack.{finding_back, survey_back, tested_back, parts_back, answer_back, started_back, verdict_back}

-- The lemma: what has a way back pins.
pub pinned_by : {A B : Type 0} (meaning : A → B) (back : B → A) → ((r : A) → back (meaning r) ≡ r) → (value : B) → Pinned meaning value
pinned_by meaning back way value r s p q = sym (way r) ∙ ap back (p ∙ sym q) ∙ way s

-- A plain answer is its own meaning.
pub pinned_plain : {A : Type 0} (value : A) → Pinned (itself {A = A}) value
pinned_plain value = pinned_by itself itself (λ r. refl) value

-- numbers: one promise at each type of numbers, pinned once for all of them: the value of a number is the number
pub lesser_pinned : (a b : ℕ) → Pinned itself (min a b)
lesser_pinned a b = pinned_plain (min a b)

pub greater_pinned : (a b : ℕ) → Pinned itself (max a b)
greater_pinned a b = pinned_plain (max a b)

-- sets: `has` and `with` at both widths, where the value of a number is the number too
pub has_pinned : (set k : ℕ) → Pinned itself (has set k)
has_pinned set k = pinned_plain (has set k)

pub with_pinned : (set k : ℕ) → Pinned itself (with_of width set k)
with_pinned set k = pinned_plain (with_of width set k)

pub with_u64_pinned : (set k : ℕ) → Pinned itself (with_of wide set k)
with_u64_pinned set k = pinned_plain (with_of wide set k)

pub without_pinned : (set k : ℕ) → Pinned itself (without_of width set k)
without_pinned set k = pinned_plain (without_of width set k)

pub size_pinned : (set : ℕ) → Pinned itself (size_of set)
size_pinned set = pinned_plain (size_of set)

-- An iterator over the members is the set of those that are left.
pub members_pinned : (set : ℕ) → Pinned (λ (r : Members). r.rest) set
members_pinned set = pinned_by (λ (r : Members). r.rest) (λ (rest : ℕ). record { rest = rest }) (λ r. refl) set

-- table
pub finding_number_pinned : (finding : Finding) → Pinned itself (found.number_in (refusal_said finding))
finding_number_pinned finding = pinned_plain (found.number_in (refusal_said finding))

pub finding_place_pinned : (finding : Finding) → Pinned itself (found.place_in (refusal_said finding))
finding_place_pinned finding = pinned_plain (found.place_in (refusal_said finding))

pub check_pinned : (words : List ℕ) → Pinned (said_of {A = Unit {0}}) (check_said words)
check_pinned words = pinned_by said_of (finding_from tt) finding_back (check_said words)

pub survey_pinned : (words : List ℕ) → Pinned survey_said (survey_of words)
survey_pinned words = pinned_by survey_said (λ (s : Surveyed). finding_from s.map s.said) survey_back (survey_of words)

pub map_of_pinned : (words : List ℕ) → Pinned itself (map_of words)
map_of_pinned words = pinned_plain (map_of words)

-- The readers: of every list of words, every map, every task, place and resource.
module _ (words : List ℕ) (map : Map) where
  abbrev table : Table
  table = table_at words map

  pub tasks_pinned : Pinned itself (min map.tasks most_tasks)
  tasks_pinned = pinned_plain (min map.tasks most_tasks)

  pub period_pinned : (task : ℕ) → Pinned itself (task_of table task).T
  period_pinned task = pinned_plain (task_of table task).T

  pub deadline_pinned : (task : ℕ) → Pinned itself (task_of table task).D
  deadline_pinned task = pinned_plain (task_of table task).D

  pub cost_pinned : (task : ℕ) → Pinned itself (task_of table task).C
  cost_pinned task = pinned_plain (task_of table task).C

  pub steps_pinned : (task : ℕ) → Pinned itself (length (task_of table task).plan)
  steps_pinned task = pinned_plain (length (task_of table task).plan)

  pub next_pinned : (task place : ℕ) → Pinned itself (next_of (task_of table task).plan place)
  next_pinned task place = pinned_plain (next_of (task_of table task).plan place)

  pub held_pinned : (task place : ℕ) → Pinned itself (held_set (held_by (task_of table task).plan place))
  held_pinned task place = pinned_plain (held_set (held_by (task_of table task).plan place))

  pub innermost_pinned : (task place : ℕ) → Pinned itself (innermost_of (held_by (task_of table task).plan place))
  innermost_pinned task place = pinned_plain (innermost_of (held_by (task_of table task).plan place))

  pub users_pinned : (resource : ℕ) → Pinned itself (users_of table resource)
  users_pinned resource = pinned_plain (users_of table resource)

  pub floor_pinned : (resource : ℕ) → Pinned itself (floor_of table resource)
  floor_pinned resource = pinned_plain (floor_of table resource)

-- machine
pub who_runs_pinned : (kept : Kept) → Pinned itself (who_runs kept)
who_runs_pinned kept = pinned_plain (who_runs kept)

-- torn
pub examine_pinned : (words : List ℕ) (used : ℕ) (kept : Kept) → Pinned tested (examined_of words used kept)
examine_pinned words used kept = pinned_by tested tested_from tested_back (examined_of words used kept)

-- verdict
pub gcd_pinned : (a b : ℕ) → Pinned itself (divisor_of a b)
gcd_pinned a b = pinned_plain (divisor_of a b)

pub verdict_number_pinned : (verdict : Verdict) → Pinned itself (judged.number_in (verdict_said (Ok verdict)))
verdict_number_pinned verdict = pinned_plain (judged.number_in (verdict_said (Ok verdict)))

pub verdict_value_pinned : (verdict : Verdict) → Pinned itself (judged.value_in (verdict_said (Ok verdict)))
verdict_value_pinned verdict = pinned_plain (judged.value_in (verdict_said (Ok verdict)))

pub verdict_pinned : (words : List ℕ) → Pinned verdict_said (verdict_of words)
verdict_pinned words = pinned_by verdict_said verdict_from verdict_back (verdict_of words)

-- dispatch: state and all
pub refusal_number_pinned : (refusal : Refusal) → Pinned itself (number_of refusal)
refusal_number_pinned refusal = pinned_plain (number_of refusal)

pub refusal_from_torn_pinned : Pinned itself Torn
refusal_from_torn_pinned = pinned_plain Torn

pub start_pinned : (words : List ℕ) → Pinned begun_of (start_of words)
start_pinned words = pinned_by begun_of started_from started_back (start_of words)

pub release_pinned : (s : State) (task time : ℕ) → Pinned heard_of (release_of s task time)
release_pinned s task time = pinned_by heard_of answer_from answer_back (release_of s task time)

pub step_pinned : (s : State) (time : ℕ) → Pinned heard_of (step_of s time)
step_pinned s time = pinned_by heard_of answer_from answer_back (step_of s time)

-- An event on a state's parts: what it leaves of them, and what it says.
module _ (words : List ℕ) (used : ℕ) (kept : Kept) where
  abbrev pub parts_said : Result Outcome Refusal → Heard
  parts_said r = after (state_of words used kept) (outcome_of kept r)

  pub event_release_pinned : (task time : ℕ) → Pinned parts_said (release_of (state_of words used kept) task time)
  event_release_pinned task time =
      pinned_by parts_said parts_from (parts_back (state_of words used kept) kept) (release_of (state_of words used kept) task time)

  pub event_step_pinned : (time : ℕ) → Pinned parts_said (step_of (state_of words used kept) time)
  event_step_pinned time = pinned_by parts_said parts_from (parts_back (state_of words used kept) kept) (step_of (state_of words used kept) time)

-- board: the image, the answer and the result that a call leaves
pub lawqendo_check_pinned : (words answer answer' : List ℕ) (r r' : ℕ) →
    (answer ≡ found_answer words) × (r ≡ first_number (found_answer words)) → (answer' ≡ found_answer words) × (r' ≡ first_number (found_answer words)) →
    (answer ≡ answer') × (r ≡ r')
lawqendo_check_pinned words answer answer' r r' p q =
    (pinned_plain (found_answer words) answer answer' p.0 q.0, pinned_plain (first_number (found_answer words)) r r' p.1 q.1)

pub lawqendo_verdict_pinned : (words answer answer' : List ℕ) (r r' : ℕ) →
    (answer ≡ judged_answer words) × (r ≡ first_number (judged_answer words)) → (answer' ≡ judged_answer words) × (r' ≡ first_number (judged_answer words)) →
    (answer ≡ answer') × (r ≡ r')
lawqendo_verdict_pinned words answer answer' r r' p q =
    (pinned_plain (judged_answer words) answer answer' p.0 q.0, pinned_plain (first_number (judged_answer words)) r r' p.1 q.1)

pub lawqendo_start_pinned : (words image image' answer answer' : List ℕ) (r r' : ℕ) →
    StartLeaves words image answer × (r ≡ first_number (start_answer words)) → StartLeaves words image' answer' × (r' ≡ first_number (start_answer words)) →
    (image ≡ image') × (answer ≡ answer') × (r ≡ r')
lawqendo_start_pinned words image image' answer answer' r r' p q = (
  pinned_plain (start_image words) image image' p.0.image_is q.0.image_is,
  pinned_plain (start_answer words) answer answer' p.0.answer_is q.0.answer_is,
  pinned_plain (first_number (start_answer words)) r r' p.1 q.1,
)

pub lawqendo_release_pinned : (before : List ℕ) (task time : ℕ) (image image' answer answer' : List ℕ) (r r' : ℕ) →
    ReleaseLeaves before task time image answer × (r ≡ first_number (release_answer before task time)) →
    ReleaseLeaves before task time image' answer' × (r' ≡ first_number (release_answer before task time)) →
    (image ≡ image') × (answer ≡ answer') × (r ≡ r')
lawqendo_release_pinned before task time image image' answer answer' r r' p q = (
  pinned_plain (release_image before task time) image image' p.0.image_is q.0.image_is,
  pinned_plain (release_answer before task time) answer answer' p.0.answer_is q.0.answer_is,
  pinned_plain (first_number (release_answer before task time)) r r' p.1 q.1,
)

pub lawqendo_step_pinned : (before : List ℕ) (time : ℕ) (image image' answer answer' : List ℕ) (r r' : ℕ) →
    StepLeaves before time image answer × (r ≡ first_number (step_answer before time)) →
    StepLeaves before time image' answer' × (r' ≡ first_number (step_answer before time)) →
    (image ≡ image') × (answer ≡ answer') × (r ≡ r')
lawqendo_step_pinned before time image image' answer answer' r r' p q = (
  pinned_plain (step_image before time) image image' p.0.image_is q.0.image_is,
  pinned_plain (step_answer before time) answer answer' p.0.answer_is q.0.answer_is,
  pinned_plain (first_number (step_answer before time)) r r' p.1 q.1,
)

-- script and player: what stands in the lent room, and the result
pub written_pinned : (text room room₁ room₂ : List ℕ) (r₁ r₂ : ℕ) → Written text room room₁ r₁ → Written text room room₂ r₂ → (room₁ ≡ room₂) × (r₁ ≡ r₂)
written_pinned text room room₁ room₂ r₁ r₂ p q =
    (pinned_plain (written text room) room₁ room₂ p.buffer q.buffer, pinned_plain (room_for text room) r₁ r₂ p.count q.count)

-- The same where a text is laid from a place on: the room, and the place behind.
pub laid_pinned : {A : Type 0} (text room room₁ room₂ : List A) (at r₁ r₂ : ℕ) → Laid text room at room₁ r₁ → Laid text room at room₂ r₂ →
    (room₁ ≡ room₂) × (r₁ ≡ r₂)
laid_pinned text room room₁ room₂ at r₁ r₂ p q =
    (pinned_plain (lay room at text) room₁ room₂ p.buffer q.buffer, pinned_plain (past (length room) at text) r₁ r₂ p.next q.next)

pub command_of_pinned : (text : List ℕ) → Pinned itself (command_of text)
command_of_pinned text = pinned_plain (command_of text)

module _ (room room₁ room₂ : List ℕ) (r₁ r₂ : ℕ) where
  -- Two ways of leaving the room and the result that both keep a promise of this form are one.
  abbrev Once : List ℕ → Type 0
  Once text = Written text room room₁ r₁ → Written text room room₂ r₂ → (room₁ ≡ room₂) × (r₁ ≡ r₂)

  once : (text : List ℕ) → Once text
  once text = written_pinned text room room₁ room₂ r₁ r₂

  pub table_words_pinned : (text : List ℕ) → Once (table_of text)
  table_words_pinned text = once (table_of text)

  pub write_reply_pinned : (reply : Result Accepted Refusal) → Once (line (reply_text (reply_said reply)))
  write_reply_pinned reply = once (line (reply_text (reply_said reply)))

  pub write_finding_pinned : (finding : Result (Unit {0}) Finding) → Once (line (finding_text (bytes "sound") (said_of finding)))
  write_finding_pinned finding = once (line (finding_text (bytes "sound") (said_of finding)))

  pub write_started_pinned : (finding : Result (Unit {0}) Finding) → Once (line (finding_text (bytes "started") (said_of finding)))
  write_started_pinned finding = once (line (finding_text (bytes "started") (said_of finding)))

  pub write_verdict_pinned : (verdict : Result Verdict Finding) → Once (line (verdict_text (verdict_said verdict)))
  write_verdict_pinned verdict = once (line (verdict_text (verdict_said verdict)))

  pub write_wrong_pinned : (number : ℕ) (fault : Fault) → Once (line (wrong_text number fault))
  write_wrong_pinned number fault = once (line (wrong_text number fault))

  pub write_clock_pinned : (time : ℕ) → Once (line (clock_text time))
  write_clock_pinned time = once (line (clock_text time))

  pub write_job_pinned : (task base active number held : ℕ) (doing : Doing) → Once (line (job_text task base active number held doing))
  write_job_pinned task base active number held doing = once (line (job_text task base active number held doing))

  pub show_pinned : (s : State) → Once (show_text s)
  show_pinned s = once (show_text s)

pub session_pinned : Pinned itself first_session
session_pinned = pinned_plain first_session

pub answer_pinned : (before : Session) (text out out₁ out₂ : List ℕ) (r₁ r₂ : Answered) →
    Plays (session_after before text) (answer_to before text) out out₁ r₁ → Plays (session_after before text) (answer_to before text) out out₂ r₂ →
    (out₁ ≡ out₂) × (r₁ ≡ r₂)
answer_pinned before text out out₁ out₂ r₁ r₂ p q =
    let e = written_pinned (answer_to before text) out out₁ out₂ r₁.bytes r₂.bytes p.answer q.answer in (
      e.0,
      λ i. record {
        session = pinned_plain (session_after before text) r₁.session r₂.session p.session q.session i;
        bytes = e.1 i;
      },
    )
