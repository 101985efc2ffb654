-- `board::image::put_rows`, the goals: a row more in each turn (`row_more`), and at the end all of them (`rows_all`). Assumes nothing.
use Rattle.std.proofs.Common.{◌≡◌, ◌+◌, ◌*◌, ◌++◌, ◌∙◌, ap, take, drop, get_or, arith}
use Rattle.table.specs.Limits.{most_tasks}
use Rattle.machine.specs.Order.{no_job}
use Rattle.board.specs.Image.{rows_at, row_size, job_cells}
use Rattle.board.proofs.Parts.{rows_put, rows_none, row_more, rows_all}
use Rattle.board.proofs.image.put_rows.Goals as goal

pub loop-task-init : goal.loop-task-init
loop-task-init c = rows_none c.args.image.now c.args.rows.now

pub loop-task-preserved : goal.loop-task-preserved
loop-task-preserved c =
    let at_loop = c.loop-task in
    let at = rows_at + row_size * at_loop.task in
    c.put_at.ensures
    ∙ ap (λ l. take at l ++ (job_cells (get_or c.args.rows.now at_loop.task no_job) ++ drop (at + row_size) l)) at_loop.invariant
    ∙ row_more c.args.image.now c.args.rows.now at_loop.task c.told-image c.told-rows c.loop-task-test.true

pub returns : goal.returns
returns c =
    let at_loop = c.loop-task in
    let end : at_loop.task ≡ most_tasks = omega arith in
    at_loop.invariant ∙ ap (rows_put c.args.image.now c.args.rows.now) end ∙ rows_all c.args.image.now c.args.rows.now c.told-image c.told-rows
