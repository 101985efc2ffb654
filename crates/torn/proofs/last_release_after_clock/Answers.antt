-- `torn::last_release_after_clock` meets its contract: of the tasks that have had a release, those below n are asked. Assumes nothing.
use Rattle.std.proofs.Common.{rules, ltb, sym, ◌∙◌, arith, refl}
use mathlib.Core.Bool.{◌&&◌}
use borrow.Author.Tests.{tests}
use Rattle.sets.specs.Member.{width}
use Rattle.sets.proofs.Iterate.{any_of_members}
use Rattle.machine.specs.Order.{row_of}
use Rattle.readers.proofs.Raw.{tasks_at_lem}
use Rattle.readers.specs.Read.{table_in}
use Rattle.torn.proofs.Asked.{any_members_below}
use Rattle.torn.proofs.Grounds.{last_is}
use Rattle.torn.proofs.last_release_after_clock.Goals as goal

pub returns : goal.returns
returns c =
    let kept = c.args.kept.now in
    let tasks = c.tasks-tasks.result in
    let told = c.tasks-tasks.ensures in
    any_of_members width kept.had (omega arith) (search rules) _ (λ i. ltb i tasks && ltb kept.clock (row_of kept i).last) _ (λ i l h b q k. search (rules, tests)) _ _ _
    c.members.ensures c.any.ensures.ran
    ∙ any_members_below tasks width kept.had (λ i. ltb kept.clock (row_of kept i).last) (omega arith)
    ∙ sym (last_is (table_in c.args.table.now) kept tasks _ (tasks_at_lem _ _ ∙ sym told) refl)
