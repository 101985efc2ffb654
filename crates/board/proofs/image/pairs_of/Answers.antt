-- `board::image::pairs_of` meets its contract: what is filled in place by place is the whole (`filled`). Assumes nothing.
use Rattle.std.proofs.Common.{rules}
use Rattle.board.specs.Image.{length_at}
use Rattle.board.proofs.Filled.{filled}
use Rattle.board.proofs.Codec.{length_packed}
use Rattle.board.proofs.image.pairs_of.Goals as goal

pub returns : goal.returns
returns c = filled _ _ _ _ _ 0 (length_packed length_at c.args.words.now c.told-words) (λ k y q h called. search rules) c.from_fn.ensures.items
