-- `board::image::rows_of` meets its contract: what is filled in place by place is the whole (`filled`). Assumes nothing.
use Rattle.std.proofs.Common.{rules}
use Rattle.machine.specs.Order.{no_job}
use Rattle.board.specs.Image.{rows_at}
use Rattle.table.specs.Limits.{most_tasks}
use Rattle.std.proofs.Common.{drop}
use Rattle.board.proofs.Filled.{filled}
use Rattle.board.proofs.Parts.{length_jobs, row_of}
use Rattle.board.proofs.image.rows_of.Goals as goal

pub returns : goal.returns
returns c =
    let image = c.args.image.now in
    filled _ _ _ _ _ no_job (length_jobs most_tasks (drop rows_at image)) (λ i y q h called. let row = row_of image i h in search rules) c.from_fn.ensures.items
