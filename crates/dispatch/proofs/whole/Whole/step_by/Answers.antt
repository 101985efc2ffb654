-- `Whole::step_by` meets its contract: what is done is what the plan says next. Assumes nothing.
use Rattle.dispatch.proofs.Held.{not_torn, lock_slot, unlock_slot}
use Rattle.dispatch.specs.Parts.{goes_on}
use Rattle.std.specs.Prelude.{Some, None}
use Rattle.torn.proofs.Untorn.{untorn, base_most}
use Rattle.machine.specs.declared.Kept.{Kept}
use Rattle.machine.proofs.Moves.{step_held, step_carried}
use Rattle.machine.proofs.Order.{who_ready}
use Rattle.readers.specs.Read.{table_in}
use lib.IntN.{ℤ}
use mir.Facts.{to_z-of_z}
use mir.Syntax.{w64}
use mathlib.Core.Path.{refl, sym, ap, ap₂, ◌∙◌}
use native.Mathlib.Omega.{arith}
use Rattle.dispatch.proofs.whole.Whole.step_by.Goals as goal

-- The job that runs is ready, and its row is there.
pub bounds-self-task : goal.bounds-self-task
bounds-self-task c = (who_ready c.args.self.now.kept.now c.args.task c.requires.0).0

pub held_by_another-requires : goal.held_by_another-requires
held_by_another-requires c = (who_ready c.args.self.now.kept.now c.args.task c.requires.0).0

pub returns-then-held_by_another : goal.returns-then-held_by_another
returns-then-held_by_another c =
    let table = table_in c.args.self.now.table in
    let kept = c.args.self.now.kept.now in
    step_held table kept c.args.task c.args.time c.requires.1 c.requires.2 c.requires.0 _ (sym c.next.ensures ∙ c.in-Lock.is)
    (sym c.held_by_another.ensures ∙ c.if-held_by_another.true)

pub locked-requires : goal.locked-requires
locked-requires c =
    let w = c.args.self.now in
    let (row, ready) = who_ready w.kept.now c.args.task c.requires.0 in
    (row, ready, lock_slot (table_in w.table) w.kept.now c.args.task (not_torn w).valid (sym c.next.ensures ∙ c.in-Lock.is), c.requires.2)

pub unlocked-requires : goal.unlocked-requires
unlocked-requires c =
    let w = c.args.self.now in
    let (row, ready) = who_ready w.kept.now c.args.task c.requires.0 in
    (row, ready, unlock_slot (table_in w.table) w.kept.now c.args.task (not_torn w).valid (sym c.next.ensures ∙ c.in-Unlock.is))

pub late-late-requires : goal.late-late-requires
late-late-requires c =
    let w = c.args.self.now in
    let row = (who_ready w.kept.now c.args.task c.requires.0).0 in
    let base = base_most w.kept.now c.args.task (untorn _ _ (not_torn w).untorn).times row in
    let end = c.requires.2 in
    (omega arith, omega arith)

pub finished-requires : goal.finished-requires
finished-requires c = (who_ready c.args.self.now.kept.now c.args.task c.requires.0).0

pub returns-else-held_by_another : goal.returns-else-held_by_another
returns-else-held_by_another c =
    let table = table_in c.args.self.now.table in
    let kept = c.args.self.now.kept.now in
    c.goes_on.ensures ∙ ap (goes_on None) c.locked.ensures
    ∙ step_carried table kept c.args.task c.args.time c.requires.1 c.requires.2 c.requires.0 _ (sym c.next.ensures ∙ c.in-Lock.is)
    (sym c.held_by_another.ensures ∙ c.if-held_by_another.false)

pub returns-in-Unlock : goal.returns-in-Unlock
returns-in-Unlock c =
    let table = table_in c.args.self.now.table in
    let kept = c.args.self.now.kept.now in
    c.goes_on-in-Unlock.ensures ∙ ap (goes_on None) c.unlocked.ensures
    ∙ step_carried table kept c.args.task c.args.time c.requires.1 c.requires.2 c.requires.0 _
    (sym c.next.ensures ∙ c.in-Unlock.is) refl

pub returns-in-Finish : goal.returns-in-Finish
returns-in-Finish c =
    let table = table_in c.args.self.now.table in
    let kept = c.args.self.now.kept.now in
    c.goes_on-in-Finish.ensures
    ∙ ap₂ (λ (z : ℤ) (n : Kept). goes_on (Some z) n) (to_z-of_z {w = w64} (record { sfits = c.late-late.type_inv }) ∙ c.late-late.ensures) c.finished.ensures
    ∙ step_carried table kept c.args.task c.args.time c.requires.1 c.requires.2 c.requires.0 _
    (sym c.next.ensures ∙ c.in-Finish.is) refl
