-- `board::events::start` meets its contract: what `dispatch` promises of a start, through the image of the state that it makes.
-- Assumes nothing.
use mathlib.Core.Path.{◌∙◌, ap}
use Rattle.dispatch.specs.Heard.{Begun}
use Rattle.board.specs.Image.{decode, encode}
use Rattle.board.specs.Answer.{check_answer}
use Rattle.board.specs.Calls.{start_image, start_answer}
use Rattle.board.proofs.Typed.{started_typed}
use Rattle.board.proofs.Codec.{decode_encode}
use Rattle.board.proofs.events.start.Goals as goal

pub returns : goal.returns
unfolding start_image start_answer
returns c =
    let begun = c.start-begun in
    let put = c.put_state.ensures in
    record {
      image_is = put ∙ ap (λ (b : Begun). encode b.state) begun.ensures;
      answer_is = c.from.ensures ∙ ap (λ (b : Begun). check_answer b.said) begun.ensures;
      state_is = ap decode put ∙ decode_encode begun.result.state (started_typed begun.result _ begun.type_inv) ∙ ap (λ (b : Begun). b.state) begun.ensures;
    }
