-- `dispatch::said::turn` meets its contract: who runs is `who_runs`, whose row is there. Assumes nothing.
use mathlib.Core.Path.{sym, ◌∙◌}
use Rattle.machine.proofs.Turn.{turn_idle, turn_runs}
use Rattle.machine.proofs.Order.{who_ready}
use Rattle.dispatch.proofs.said.turn.Goals as goal

pub returns-in_err-task : goal.returns-in_err-task
returns-in_err-task c = rw c.from_residual.ensures (sym (turn_idle c.args.kept.now (sym c.who_runs.ensures ∙ c.in_err-task.was)))

pub bounds-kept-task : goal.bounds-kept-task
bounds-kept-task c = (who_ready c.args.kept.now _ (sym c.who_runs.ensures ∙ c.in_ok-task.was)).0

pub returns : goal.returns
returns c = sym (turn_runs c.args.kept.now _ (sym c.who_runs.ensures ∙ c.in_ok-task.was))
