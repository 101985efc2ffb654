-- `Walk::read_step` meets its contract: each arm says what STEP's rule comes to, and with it the reading (laws of `Reading`). Assumes nothing.
use mathlib.Core.Path.{sym, ◌∙◌}
use native.Mathlib.Omega.{arith}
use Rattle.table.specs.Table.{lock, unlock}
use Rattle.table.specs.Walk.{standing_in}
use Rattle.table.proofs.Reading.{step_short, step_on, step_off}
use Rattle.table.proofs.walk.Walk.read_step.Goals as goal

pub returns-in_default : goal.returns-in_default
returns-in_default c = let a = c.args in
    let w = a.self.now in
    sym (step_short w.resources a.cost (standing_in a.sections) w.words.now a.at (omega (arith, c.in_default.ensures.lookup.0)))

pub returns-in-Some-Lock : goal.returns-in-Some-Lock
returns-in-Some-Lock c = let a = c.args in
    let w = a.self.now in
    let e = c.in-Some.ensures.lookup.0 in
    let v = c.in-Some-Lock in
    let s = rw v.field-0-is at v.ensures in
    c.lock.ensures
    ∙ sym (step_on w.resources a.cost (standing_in a.sections) w.words.now a.at c.in-Some.step.now e.1 e.2 (lock v.resource v.length) s.sound s.says)

pub returns-in-Some-Unlock : goal.returns-in-Some-Unlock
returns-in-Some-Unlock c = let a = c.args in
    let w = a.self.now in
    let e = c.in-Some.ensures.lookup.0 in
    let v = c.in-Some-Unlock in
    let s = rw v.field-0-is at v.ensures in
    c.unlock.ensures ∙ sym (step_on w.resources a.cost (standing_in a.sections) w.words.now a.at c.in-Some.step.now e.1 e.2 unlock s.sound s.says)

pub returns-in-None : goal.returns-in-None
returns-in-None c = let a = c.args in
    let w = a.self.now in
    let e = c.in-Some.ensures.lookup.0 in
    sym (step_off w.resources a.cost (standing_in a.sections) w.words.now a.at c.in-Some.step.now e.1 e.2 c.in-None.ensures)
