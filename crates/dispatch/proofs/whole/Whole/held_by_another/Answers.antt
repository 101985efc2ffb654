-- `Whole::held_by_another` meets its contract: the other ready jobs are asked, whose rows are there. Assumes nothing.
use Rattle.std.proofs.Common.{rules, arith, ◌∙◌, ◌<◌}
use borrow.Author.Tests.{tests}
use Rattle.sets.specs.Member.{width, has, without_of}
use Rattle.sets.proofs.Iterate.{any_of_members, callable_at_members}
use Rattle.table.specs.Held.{held_set}
use Rattle.table.specs.Limits.{most_tasks}
use Rattle.readers.specs.Read.{table_in}
use Rattle.machine.specs.Machine.{held_of}
use Rattle.dispatch.proofs.Held.{not_torn, others_fit, another_asked}
use Rattle.dispatch.proofs.whole.Whole.held_by_another.Goals as goal

pub any-requires-clause-callable : goal.any-requires-clause-callable
any-requires-clause-callable c =
    let w = c.args.self.now in
    callable_at_members most_tasks (without_of width w.kept.now.ready c.args.task) (omega arith) (others_fit _ w.kept.now c.args.task (not_torn w) (search rules)) _
    (c.members.ensures ∙ c.without.ensures) (λ i q k. search rules) (λ i l h. search rules)

pub returns : goal.returns
returns c =
    let w = c.args.self.now in
    let task : c.args.task < width = let l = c.requires in omega arith in
    any_of_members most_tasks (without_of width w.kept.now.ready c.args.task) (omega arith) (others_fit _ w.kept.now c.args.task (not_torn w) (search rules)) _
    (λ j. has (held_set (held_of (table_in w.table) w.kept.now j)) c.args.resource) _ (λ i l h b q k. search (rules, tests)) _ _ _
    (c.members.ensures ∙ c.without.ensures) c.any.ensures.ran
    ∙ another_asked (table_in w.table) w.kept.now c.args.task c.args.resource (not_torn w).valid task
