-- `board::events::step` meets its contract: what `dispatch` promises of the parts that were read, through the image (`event_left`).
-- Assumes nothing.
use Rattle.std.proofs.Common.{rules}
use Rattle.dispatch.specs.Dispatch.{step_of}
use Rattle.dispatch.specs.declared.State.{State}
use Rattle.board.specs.Image.{decode}
use Rattle.board.specs.Calls.{step_image, step_answer}
use Rattle.board.proofs.Heard.{step_kept, event_left}
use Rattle.board.proofs.events.step.Goals as goal

pub returns : goal.returns
unfolding step_image step_answer
returns c =
    let image = c.args.image.now in
    let left = event_left image _ _ (λ (s : State). step_of s c.args.time) c.told-image c.hear.ensures (search rules) (step_kept (decode image) c.args.time) in
    record { image_is = left.0; answer_is = left.1; state_is = left.2 }
