-- `dispatch::change::late` meets its contract: both times are below 2^41, so neither cast nor difference loses anything. Assumes nothing.
use Rattle.machine.specs.Machine.{lateness}
use Rattle.dispatch.proofs.Late.{signed_difference}
use Rattle.dispatch.proofs.change.late.Goals as goal

pub returns : goal.returns
unfolding lateness
returns c = signed_difference c.args.time c.args.base c.requires.0 c.requires.1
