-- `times::Times::gather` meets its contract: a place gets the times of its task, one that is there.
-- Assumes nothing.
use native.Mathlib.Omega.{arith}
use Rattle.readers.proofs.Raw.{tasks_at_lem}
use Rattle.verdict.proofs.Gathered.{gathered_more, gathered_all}
use Rattle.verdict.proofs.times.Times.gather.Goals as goal

pub of-requires : goal.of-requires
of-requires c =
    let table = c.args.sound.now.table in
    omega (arith, tasks_at_lem table.words.now table.map)

pub loop-task-preserved : goal.loop-task-preserved
loop-task-preserved c =
    let table = c.args.sound.now.table in
    gathered_more _ c.loop-task.invariant (omega arith) (omega (arith, tasks_at_lem table.words.now table.map)) c.of.ensures

pub returns : goal.returns
returns c =
    let table = c.args.sound.now.table in
    gathered_all c.loop-task.invariant (omega (arith, tasks_at_lem table.words.now table.map))
