-- `Walk::read_head` meets its contract: each word leads to the next or ends the task (laws of `Reading`). Assumes nothing.
use Prim.Native.Nat.{◌+◌}
use mathlib.Core.Path.{sym}
use native.Mathlib.Omega.{arith}
use Rattle.table.proofs.Findings.{exits}
use Rattle.numbers.specs.Answers.{COUNT}
use Rattle.table.specs.Limits.{most_steps, at_steps}
use Rattle.table.proofs.Passed.{word_got}
use Rattle.table.proofs.Reading.{period_refused, deadline_refused, cost_refused, steps_refused, plan_last}
use Rattle.table.proofs.walk.Walk.read_head.Goals as goal

pub returns-in_err-read_ticks-clause-read : goal.returns-in_err-read_ticks-clause-read
returns-in_err-read_ticks-clause-read c = let w = c.args.self.now in
    let r = c.from_residual in
    rw (exits r.result c.in_err-read_ticks.field-0.0 r.ensures.1)
    (sym (period_refused w.resources w.words.now c.args.at _ _ (sym c.in_err-read_ticks.ensures)))

pub returns-in_err-read_ticks-2-clause-read : goal.returns-in_err-read_ticks-2-clause-read
returns-in_err-read_ticks-2-clause-read c = let w = c.args.self.now in
    let r = c.from_residual-in_err-read_ticks-2 in
    rw (exits r.result c.in_err-read_ticks-2.field-0.0 r.ensures.1)
    (sym (deadline_refused w.resources w.words.now c.args.at _ (sym c.in_ok-read_ticks.ensures) _ _ (sym c.in_err-read_ticks-2.ensures)))

pub returns-in_err-cost-clause-read : goal.returns-in_err-cost-clause-read
returns-in_err-cost-clause-read c = let w = c.args.self.now in
    let r = c.from_residual-in_err-cost in
    rw (exits r.result c.in_err-cost.field-0.0 r.ensures.1)
    (sym (cost_refused w.resources w.words.now c.args.at _ (sym c.in_ok-read_ticks.ensures) _ (sym c.in_ok-read_ticks-2.ensures) _ _ (sym c.in_err-cost.ensures)))

pub returns-in_err-steps-clause-read : goal.returns-in_err-steps-clause-read
returns-in_err-steps-clause-read c = let w = c.args.self.now in
    let r = c.from_residual-in_err-steps in
    rw (exits r.result c.in_err-steps.field-0.0 r.ensures.1)
    (sym (steps_refused w.resources w.words.now c.args.at _ (sym c.in_ok-read_ticks.ensures) _ (sym c.in_ok-read_ticks-2.ensures) _ (sym c.in_ok-cost.ensures) _ _
    (sym (rw (c.new.ensures.start, c.new.ensures.end) at c.in_err-steps.ensures))))

pub returns-clause-read : goal.returns-clause-read
returns-clause-read c = let w = c.args.self.now in
    sym (plan_last w.resources w.words.now c.args.at _ (sym c.in_ok-read_ticks.ensures) _ (sym c.in_ok-read_ticks-2.ensures) _ (sym c.in_ok-cost.ensures) _
    (sym (rw (c.new.ensures.start, c.new.ensures.end) at c.in_ok-steps.ensures)))

pub returns-clause-room : goal.returns-clause-room
returns-clause-room c =
    let s = word_got COUNT 0 most_steps c.args.self.now.words.now (c.args.at + at_steps) (sym (rw (c.new.ensures.start, c.new.ensures.end) at c.in_ok-steps.ensures)) in
    omega (arith, s.there)
