-- `board::image::put_state` meets its contract: the words, their length, and what an event changes, one behind the other (`state_put`).
-- Assumes nothing.
use Rattle.std.proofs.Common.{◌∙◌}
use Rattle.board.proofs.Parts.{state_put}
use Rattle.board.proofs.image.put_state.Goals as goal

pub returns : goal.returns
returns c =
    let copied = c.copy_from_slice.ensures in
    state_put c.args.image.now c.copy_from_slice.new.self _ c.args.state.now c.told-image copied.len (copied.after ∙ c.pairs_of.ensures) c.put_kept.ensures
