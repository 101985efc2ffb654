-- `torn::stored::stored_too_late` meets its contract: each of the sixteen rows is asked. Assumes nothing.
use Rattle.std.proofs.Common.{rules, ◌≡◌, ℕ, length, ap, ◌∙◌}
use borrow.Author.Tests.{tests}
use Rattle.std.proofs.lemmas.Iterator.{YieldsList-from_slice}
use Rattle.std.proofs.lemmas.Iterator.Search.{any_from_yields_List}
use Rattle.numbers.specs.Any.{any_below}
use Rattle.table.specs.Limits.{most_tasks}
use Rattle.machine.specs.Order.{no_job, row_of}
use Rattle.torn.specs.Torn.{row_too_late, torn_times}
use Rattle.torn.proofs.Asked.{any_items}
use Rattle.torn.proofs.stored.stored_too_late.Goals as goal

pub returns : goal.returns
unfolding torn_times
returns c =
    let kept = c.args.kept.now in
    let sixteen : length kept.rows ≡ most_tasks = search rules in
    any_from_yields_List row_too_late _ _ _ c.any.ensures.ran (YieldsList-from_slice kept.rows cc) (λ row b q k. search (rules, tests))
    ∙ any_items kept.rows no_job row_too_late ∙ ap (λ (n : ℕ). any_below n (λ i. row_too_late (row_of kept i))) sixteen
