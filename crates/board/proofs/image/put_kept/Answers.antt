-- `board::image::put_kept` meets its contract: four stores, and the rows behind them (`kept_put`).
-- Assumes nothing.
use Rattle.board.proofs.Parts.{kept_put}
use Rattle.board.proofs.image.put_kept.Goals as goal

pub returns : goal.returns
returns c = kept_put c.args.image.now _ c.args.kept.now c.told-image (rw (← c.from.ensures, ← c.from-2.ensures) c.put_rows.ensures)
