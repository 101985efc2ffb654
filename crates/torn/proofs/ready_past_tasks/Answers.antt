-- `torn::ready_past_tasks` meets its contract: the ready set's members are asked, and where none is past the tasks the set is a number of sixteen digits.
-- Assumes nothing.
use Rattle.std.proofs.Common.{rules, ◌≡◌, leb, sym, ◌∙◌, arith}
use borrow.Author.Tests.{tests}
use Rattle.numbers.specs.Any.{any_below}
use Rattle.sets.specs.Member.{width, has}
use Rattle.sets.proofs.Iterate.{any_of_members}
use Rattle.readers.proofs.Raw.{tasks_at_lem}
use Rattle.readers.specs.Read.{table_in}
use Rattle.torn.proofs.Grounds.{ready_is, ready_sixteen}
use Rattle.torn.proofs.Untorn.{ready_fits}
use mathlib.Core.Bool.{◌&&◌}
use Rattle.torn.proofs.ready_past_tasks.Goals as goal

pub returns : goal.returns
returns c =
    let kept = c.args.kept.now in
    let tasks = c.tasks-tasks.result in
    let asked : c.any.result ≡ any_below width (λ i. has kept.ready i && leb tasks i) = any_of_members width kept.ready (omega arith) (search rules) _ (λ i. leb tasks i) _ (λ i l h b q k. search (rules, tests)) _ _ _ c.members.ensures c.any.ensures.ran in (
      sym (ready_is (table_in c.args.table.now) kept tasks _ (tasks_at_lem _ _ ∙ sym c.tasks-tasks.ensures) (sym asked)),
      λ none. ready_sixteen kept.ready tasks _ c.tasks-tasks.ensures (ready_fits kept.ready tasks (search rules) (sym asked ∙ none)),
    )
