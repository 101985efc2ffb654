-- `Whole::release` meets its contract: each answer is the row of the tests that led to it, from top to bottom. Assumes nothing.
use mathlib.Core.Path.{sym, ap, ◌∙◌}
use Rattle.std.proofs.lemmas.Result.{err_from_is_err_and}
use Rattle.std.specs.Prelude.{None}
use Rattle.readers.specs.Read.{table_in}
use Rattle.machine.specs.Event.{release}
use Rattle.dispatch.specs.Parts.{goes_on}
use Rattle.dispatch.proofs.Timely.{untimely}
use Rattle.dispatch.proofs.Told.{release_nobody, release_active, release_early, release_done}
use Rattle.dispatch.proofs.whole.Whole.release.Goals as goal

pub returns-in_err-in_time : goal.returns-in_err-in_time
returns-in_err-in_time c =
    let a = c.args in
    let p = err_from_is_err_and c.from_residual.result c.from_residual.ensures.1 in
    rw (p.1, p.2) (untimely (table_in a.self.now.table) a.self.now.kept.now (release a.task a.time) _ (sym c.in_err-in_time.ensures))

pub returns-then-tasks-task : goal.returns-then-tasks-task
returns-then-tasks-task c =
    let a = c.args in
    release_nobody a.self.now a.time (sym c.in_ok-in_time.ensures) a.task _ c.tasks.ensures c.if-tasks-task.true

pub returns-then-has : goal.returns-then-has
returns-then-has c =
    let a = c.args in
    release_active a.self.now a.time (sym c.in_ok-in_time.ensures) a.task _ c.tasks.ensures c.if-tasks-task.false (sym c.if-has.ensures)

pub returns-then-early : goal.returns-then-early
returns-then-early c =
    let a = c.args in
    release_early a.self.now a.time (sym c.in_ok-in_time.ensures) a.task _ c.tasks.ensures c.if-tasks-task.false (sym c.if-has.ensures) (sym c.if-early.ensures)

pub returns : goal.returns
returns c =
    let a = c.args in
    c.goes_on.ensures ∙ ap (goes_on None) c.released.ensures
    ∙ release_done a.self.now a.time (sym c.in_ok-in_time.ensures) a.task _ c.tasks.ensures c.if-tasks-task.false (sym c.if-has.ensures) (sym c.if-early.ensures)
