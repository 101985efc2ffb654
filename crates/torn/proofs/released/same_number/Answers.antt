-- `torn::released::same_number` meets its contract: of the tasks below this one, the ready ones' rows are asked. Assumes nothing.
use Rattle.std.proofs.Common.{rules, eqb, ◌∙◌, arith}
use mathlib.Core.Bool.{◌&&◌}
use borrow.Author.Tests.{tests}
use Rattle.std.proofs.lemmas.Iterator.{YieldsList-from_range}
use Rattle.std.proofs.lemmas.Iterator.Search.{any_from_yields_List}
use Rattle.sets.specs.Member.{has}
use Rattle.machine.specs.Order.{row_of}
use Rattle.torn.proofs.Asked.{any_range}
use Rattle.torn.proofs.released.same_number.Goals as goal

pub returns : goal.returns
returns c =
    let kept = c.args.kept.now in
    let task = c.args.task in
    any_from_yields_List (λ j. has kept.ready j && eqb (row_of kept j).number (row_of kept task).number) _ _ _ c.any.ensures.ran
    (YieldsList-from_range 0 task task (cc) (omega arith)) (λ j b q k. search (rules, tests))
    ∙ any_range task (λ j. has kept.ready j && eqb (row_of kept j).number (row_of kept task).number)
