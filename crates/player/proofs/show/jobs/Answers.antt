use Rattle.std.proofs.Common.{◌≡◌, arith}
use Rattle.readers.specs.Read.{table_in}
use Rattle.text.proofs.Lay.{none_laid, laid_within, laid_length, then, whole}
use Rattle.player.proofs.Told.{all_ready, from_middle}
use Rattle.player.proofs.show.jobs.Goals as goal

pub loop-task-init : goal.loop-task-init
loop-task-init c =
    let t = table_in c.args.table.now in
    let all : c.into_iter-task-iterator.result.rest ≡ c.args.kept.now.ready = cc in
    record { within = omega arith; left = λ b to laid. rw (all, all_ready t c.args.kept.now) at laid }

pub loop-task-preserved : goal.loop-task-preserved
loop-task-preserved c =
    let so_far = c.loop-task.invariant in
    let laid = from_middle {b = c.loop-task.out} so_far.within c.ready-at.ensures in
    record {
      within = omega (arith, laid_within _ _ _ _ _ laid so_far.within, laid_length laid);
      left = λ b to rest. so_far.left b to (rw c.in-Some.ensures.steps (then laid rest));
    }

-- behind the loop no member is left
pub returns : goal.returns
returns c = whole (c.loop-task.invariant.left _ _ (rw c.in-None.ensures.steps.0 (none_laid _ _)))
