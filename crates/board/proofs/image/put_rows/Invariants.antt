-- `board::image::put_rows` meets its contract. The loop's invariant: the rows passed are written (`rows_put`). A turn writes the next (`row_more`).
-- Assumes nothing.
use mathlib.Core.Path.{◌≡◌}
use Rattle.board.proofs.Parts.{rows_put}
use Rattle.board.proofs.image.put_rows.Given as goal

abbrev pub invariant-loop-task : goal.invariant-loop-task
invariant-loop-task l = l.image ≡ rows_put l.initial.image l.rows l.task
