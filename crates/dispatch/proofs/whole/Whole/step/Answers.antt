-- `Whole::step` meets its contract: each answer is the row of the tests that led to it, from top to bottom. Assumes nothing.
use Prim.Native.Nat.{ℕ}
use mathlib.Core.Path.{sym, ap, ◌∙◌}
use Rattle.std.proofs.lemmas.Result.{err_from_is_err_and}
use Rattle.std.specs.Option.{ok_or}
use Rattle.std.specs.Prelude.{Option}
use Rattle.readers.specs.Read.{table_in}
use Rattle.machine.specs.Event.{step}
use Rattle.dispatch.specs.declared.Refusal.TheVariants.{Nobody}
use Rattle.dispatch.proofs.Timely.{untimely, timely}
use Rattle.dispatch.proofs.Told.{runs_some, step_nobody}
use Rattle.dispatch.proofs.whole.Whole.step.Goals as goal

pub returns-in_err-in_time : goal.returns-in_err-in_time
returns-in_err-in_time c =
    let a = c.args in
    let p = err_from_is_err_and c.from_residual.result c.from_residual.ensures.1 in
    rw (p.1, p.2) (untimely (table_in a.self.now.table) a.self.now.kept.now (step a.time) _ (sym c.in_err-in_time.ensures))

pub returns-in_err-task : goal.returns-in_err-task
returns-in_err-task c =
    let a = c.args in
    let p = err_from_is_err_and c.from_residual-in_err-task.result c.from_residual-in_err-task.ensures.1 in
    rw (p.1, p.2) (step_nobody a.self.now a.time (sym c.in_ok-in_time.ensures) _
    (ap (λ (who : Option ℕ). ok_or who Nobody) (sym c.who_runs.ensures) ∙ sym c.in_err-task.ensures.value))

pub step_by-requires : goal.step_by-requires
step_by-requires c =
    let w = c.args.self.now in
    let in_time = timely w.kept.now c.args.time (sym c.in_ok-in_time.ensures) in
    (runs_some w.kept.now _ (ap (λ (who : Option ℕ). ok_or who Nobody) (sym c.who_runs.ensures) ∙ sym c.in_ok-task.ensures.value), in_time.back, in_time.end)
