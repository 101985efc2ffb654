-- `Whole::finished` meets its contract. Assumes nothing.
use Rattle.dispatch.proofs.After.{cleared_is}
use Rattle.dispatch.proofs.whole.Whole.finished.Goals as goal

pub returns : goal.returns
returns c =
    let kept = c.args.self.now.kept.now in
    cleared_is kept c.args.task c.args.time _ _ c.with_row.ensures _ c.no_job-cleared.ensures c.without.ensures
