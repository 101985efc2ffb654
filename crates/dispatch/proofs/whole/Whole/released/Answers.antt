-- `Whole::released` meets its contract: neither the deadline nor the count wraps. Assumes nothing.
use mathlib.Core.Path.{◌∙◌}
use native.Mathlib.Omega.{arith}
use Rattle.readers.specs.Read.{table_in}
use Rattle.torn.proofs.Untorn.{untorn, count_most}
use Rattle.dispatch.proofs.After.{released_is}
use Rattle.dispatch.proofs.Held.{not_torn}
use Rattle.dispatch.proofs.whole.Whole.released.Goals as goal

pub overflow_add-result : goal.overflow_add-result
overflow_add-result c =
    let w = c.args.self.now in
    let count = count_most w.kept.now (untorn _ _ (not_torn w).untorn).count in
    omega arith

pub returns : goal.returns
returns c =
    let w = c.args.self.now in
    released_is (table_in w.table) w.kept.now c.args.task c.args.time _ _ c.with_row.ensures c.from-deadline.result _ _ c.new_job-job.ensures (c.from-deadline.ensures ∙ c.deadline.ensures) c.with.ensures c.with-2.ensures
