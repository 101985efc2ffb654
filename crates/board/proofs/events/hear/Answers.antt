-- `board::events::hear` meets its contract: the event hears the parts that were read, and its answer is written back. Assumes nothing.
use Rattle.board.proofs.Typed.{words_half_of, heard_typed}
use Rattle.board.proofs.events.hear.Goals as goal

pub returns : goal.returns
returns g c =
    let words = c.words_of-words in
    let heard = c.event in
    record {
      words = _;
      words_are = words.ensures;
      kept = c.kept_of-kept.result;
      kept_is = c.kept_of-kept.ensures;
      heard = heard.result;
      met = heard.ensures;
      typed = heard_typed words.result _ heard.result _ words.type_inv.1.0.1 (words_half_of words.result words.type_inv.0 words.type_inv.1.1) heard.type_inv;
      image_is = c.keep.ensures.image;
      answer_is = c.keep.ensures.answer;
    }
