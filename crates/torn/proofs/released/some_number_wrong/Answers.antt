-- `torn::released::some_number_wrong` meets its contract: the ready set's members are asked, whose rows are there. Assumes nothing.
use Rattle.std.proofs.Common.{rules, leb, arith}
use mathlib.Core.Bool.{◌||◌}
use borrow.Author.Tests.{tests}
use Rattle.sets.proofs.Iterate.{any_of_members, callable_at_members}
use Rattle.table.specs.Limits.{most_tasks}
use Rattle.machine.specs.Order.{row_of}
use Rattle.torn.specs.Torn.{same_number, torn_numbers}
use Rattle.torn.proofs.released.some_number_wrong.Goals as goal

pub any-requires-clause-callable : goal.any-requires-clause-callable
any-requires-clause-callable c =
    callable_at_members most_tasks c.args.kept.now.ready (omega arith) c.requires _ c.members.ensures (λ i q k. search rules) (λ i l h. search rules)

pub returns : goal.returns
unfolding torn_numbers
returns c =
    let kept = c.args.kept.now in
    any_of_members most_tasks kept.ready (omega arith) c.requires _ (λ i. same_number kept i || leb kept.count (row_of kept i).number) _
    (λ i l h b q k. search (rules, tests)) _ _ _ c.members.ensures c.any.ensures.ran
