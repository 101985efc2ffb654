-- What each call leaves in the image and in the answer: the promises of `dispatch`, `table` and `verdict`, seen through `decode`, `encode` and the five numbers.
-- An event that is turned away leaves the image as it lies, number for number; an accepted one leaves the image of the new state. Assumes nothing.
use Rattle.std.specs.Prelude.{ℕ, ◌≡◌, List, get_or}
use Rattle.table.specs.Said.{check_said}
use Rattle.machine.specs.Reply.{EventReply, refused, went_on, finished}
use Rattle.dispatch.specs.Heard.{Heard}
use Rattle.dispatch.specs.Dispatch.{start_of, release_of, step_of}
use Rattle.verdict.specs.Verdict.{verdict_of}
use Rattle.board.specs.Image.{decode, encode}
use Rattle.board.specs.Answer.{event_answer, check_answer, verdict_answer}

-- The first number of an answer, which a call returns too.
abbrev pub first_number : List ℕ → ℕ
first_number answer = get_or answer 0 0

-- "the state comes back equal, clock included"
abbrev pub image_after : List ℕ → List ℕ → EventReply → List ℕ
image_after before after (refused number) = before
image_after before after (went_on turn) = after
image_after before after (finished late turn) = after

abbrev pub image_heard : List ℕ → Heard → List ℕ
image_heard image heard = image_after image (encode heard.state) heard.said

-- A release of task i at a time.
unfoldable pub release_image : List ℕ → ℕ → ℕ → List ℕ
release_image image i time = image_heard image (release_of (decode image) i time)

unfoldable pub release_answer : List ℕ → ℕ → ℕ → List ℕ
release_answer image i time = event_answer (release_of (decode image) i time).said

-- The running job's next step at a time.
unfoldable pub step_image : List ℕ → ℕ → List ℕ
step_image image time = image_heard image (step_of (decode image) time)

unfoldable pub step_answer : List ℕ → ℕ → List ℕ
step_answer image time = event_answer (step_of (decode image) time).said

-- A start, from a list of words. A refused one leaves zeros, the image of "a state whose numbers are all zero".
unfoldable pub start_image : List ℕ → List ℕ
start_image ws = encode (start_of ws).state

unfoldable pub start_answer : List ℕ → List ℕ
start_answer ws = check_answer (start_of ws).said

-- The check of a list of words, and the verdict on it.
unfoldable pub found_answer : List ℕ → List ℕ
found_answer ws = check_answer (check_said ws)

unfoldable pub judged_answer : List ℕ → List ℕ
judged_answer ws = verdict_answer (verdict_of ws)

-- What a call promises of the image and the answer that it leaves: they are those numbers, and the image, read again, is the state that `dispatch` hands back.
pub record ReleaseLeaves (before : List ℕ) (i time : ℕ) (image answer : List ℕ) : Type 0 where
  pub image_is : image ≡ release_image before i time
  pub answer_is : answer ≡ release_answer before i time
  pub state_is : decode image ≡ (release_of (decode before) i time).state

pub record StepLeaves (before : List ℕ) (time : ℕ) (image answer : List ℕ) : Type 0 where
  pub image_is : image ≡ step_image before time
  pub answer_is : answer ≡ step_answer before time
  pub state_is : decode image ≡ (step_of (decode before) time).state

pub record StartLeaves (words image answer : List ℕ) : Type 0 where
  pub image_is : image ≡ start_image words
  pub answer_is : answer ≡ start_answer words
  pub state_is : decode image ≡ (start_of words).state
