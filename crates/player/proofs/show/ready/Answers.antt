-- `player::show::ready` meets its contract: a task that is not there has no line. Assumes nothing.
use Rattle.std.proofs.Common.{◌≤◌, arith, le-ltb}
use Rattle.table.specs.Limits.{most_tasks}
use Rattle.text.proofs.Lay.{none_laid, whole}
use Rattle.player.proofs.show.ready.Goals as goal

pub returns-in-None : goal.returns-in-None
returns-in-None c = let past : most_tasks ≤ c.args.task = omega (arith, c.in-None.ensures.lookup) in rw (le-ltb c.args.task most_tasks past) (whole (none_laid _ 0))
