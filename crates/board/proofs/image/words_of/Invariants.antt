-- `board::image::words_of` meets its contract. The loop's invariant: the words of the numbers passed are in place. Assumes nothing.
use mathlib.Core.Path.{◌≡◌}
use Rattle.board.proofs.Parts.{words_read}
use Rattle.board.proofs.image.words_of.Given as goal

abbrev pub invariant-loop-k : goal.invariant-loop-k
invariant-loop-k l = l.words ≡ words_read l.image l.initial.words l.k
