-- `board::image::words_of`, the goals: two words more in each turn (`word_more`), and at the end all of them (`words_all`). Assumes nothing.
use mathlib.Core.Path.{refl}
use native.Mathlib.Omega.{arith}
use Rattle.board.proofs.Parts.{word_more, words_all}
use Rattle.board.proofs.image.words_of.Goals as goal

pub loop-k-preserved : goal.loop-k-preserved
loop-k-preserved c =
    let at_loop = c.loop-k in
    word_more c.args.image.now _ at_loop.words at_loop.k _ c.told-image refl (omega arith) refl at_loop.invariant

pub returns : goal.returns
returns c =
    let at_loop = c.loop-k in
    words_all c.args.image.now _ at_loop.words at_loop.k c.told-image refl (omega arith) at_loop.invariant
