-- What an event leaves as `events::keep` has it from `dispatch`: the image and the reply. Only private functions cite it; law `kept_after` (proofs/Heard) ties it to
-- `image_after` of `Calls`. Assumes nothing.
use Rattle.std.specs.Prelude.{ℕ, ◌≡◌, List, ◌++◌, get_or, take, Result, Ok, Err}
use Rattle.std.specs.Fn.{Once}
use denote.Ref.{Bor}
use Rattle.machine.specs.Reply.{EventReply, refused}
use Rattle.machine.specs.declared.Kept.{Kept}
use Rattle.dispatch.specs.State.{state_of}
use Rattle.dispatch.specs.Heard.{number_of, accepted_said}
use Rattle.dispatch.specs.declared.Outcome.{Outcome}
use Rattle.dispatch.specs.declared.Refusal.{Refusal}
use Rattle.board.specs.Answer.{event_answer}
use Rattle.board.specs.Image.{length_at, clock_at, unpacked, decode, kept_cells, TypedState}

abbrev pub image_kept : List ℕ → Result Outcome Refusal → List ℕ
image_kept image (Ok outcome) = take clock_at image ++ kept_cells outcome.kept
image_kept image (Err refusal) = image

abbrev pub heard_said : Result Outcome Refusal → EventReply
heard_said (Ok outcome) = accepted_said outcome.accepted
heard_said (Err refusal) = refused (number_of refusal)

-- What `events::hear` leaves: the event hears the parts that are read from the image, and of an accepted one what is kept is as its fields' types say.
pub record Hears {F : Type 0} (g : Once F (Bor (List ℕ) × (ℕ × (Kept × Unit {0}))) (Result Outcome Refusal)) (event : F) (before image numbers : List ℕ) : Type 0 where
  pub words : Bor (List ℕ)
  pub words_are : words.now ≡ unpacked (take length_at before)
  pub kept : Kept
  pub kept_is : kept ≡ (decode before).kept
  pub heard : Result Outcome Refusal
  pub met : g.post event (words, (get_or before length_at 0, (kept, tt))) heard
  pub typed : (out : Outcome) → heard ≡ Ok out → TypedState (state_of words.now (get_or before length_at 0) out.kept)
  pub image_is : image ≡ image_kept before heard
  pub answer_is : numbers ≡ event_answer (heard_said heard)
