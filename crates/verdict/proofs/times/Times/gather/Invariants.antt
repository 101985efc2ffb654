-- `times::Times::gather` meets its contract: every place passed has its task's T, D and C.
-- Assumes nothing.
use Rattle.readers.specs.Read.{table_in}
use Rattle.verdict.proofs.Gathered.{Gathered}
use Rattle.verdict.proofs.times.Times.gather.Given as goal

abbrev pub invariant-loop-task : goal.invariant-loop-task
invariant-loop-task l = Gathered (table_in l.sound.table).tasks l.all l.task
