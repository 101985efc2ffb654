-- `torn::stored::saved_too_late` meets its contract: each of the four slots is asked. Assumes nothing.
use Rattle.std.proofs.Common.{rules, ◌≡◌, ℕ, get_or, length, ap, ◌∙◌}
use borrow.Author.Tests.{tests}
use Rattle.std.proofs.lemmas.Iterator.{YieldsList-from_slice}
use Rattle.std.proofs.lemmas.Iterator.Search.{any_from_yields_List}
use Rattle.numbers.specs.Any.{any_below}
use Rattle.table.specs.Limits.{most_held}
use Rattle.torn.specs.Torn.{too_late}
use Rattle.torn.proofs.Asked.{any_items}
use Rattle.torn.proofs.stored.saved_too_late.Goals as goal

pub returns : goal.returns
returns c =
    let saved = c.args.saved.now in
    let four : length saved ≡ most_held = search rules in
    any_from_yields_List too_late _ _ _ c.any.ensures.ran (YieldsList-from_slice saved cc) (λ time b q k. search (rules, tests))
    ∙ any_items saved 0 too_late ∙ ap (λ (n : ℕ). any_below n (λ k. too_late (get_or saved k 0))) four
