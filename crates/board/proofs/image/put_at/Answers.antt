-- `board::image::put_at` meets its contract: what is lent of the image is all of it from the row on (`put_behind`). Assumes nothing.
use Rattle.std.proofs.Common.{◌+◌, ◌*◌}
use Rattle.board.specs.Image.{rows_at, row_size, job_cells}
use Rattle.board.proofs.Parts.{put_behind}
use Rattle.board.proofs.image.put_at.Goals as goal

pub returns : goal.returns
returns c = put_behind c.args.image.now c.put_job.new.row (job_cells c.args.job.now) (rows_at + row_size * c.args.task) c.told-image c.put_job.ensures
