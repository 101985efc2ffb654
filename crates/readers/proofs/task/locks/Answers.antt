-- `task::locks` meets its contract, by the law `uses_lem`. Assumes nothing.
use mathlib.Core.Path.{refl, ap, ◌∙◌}
use native.Mathlib.Omega.{arith}
use borrow.Author.Tests.{tests}
use Rattle.std.proofs.Common.{rules}
use Rattle.std.specs.List.{range_with_len, list_any}
use Rattle.std.proofs.lemmas.Iterator.{YieldsList-from_range}
use Rattle.std.proofs.lemmas.Iterator.Search.{any_from_yields_List}
use Rattle.readers.proofs.Raw.{locks_at, uses_lem}
use Rattle.readers.proofs.task.locks.Goals as goal

pub returns : goal.returns
returns c =
    let ws = c.args.words.now in
    any_from_yields_List (locks_at ws c.args.resource) _ _ _ c.any.ensures.ran
    (YieldsList-from_range 0 c.steps.result c.steps.result refl (omega arith)) (λ x b q k. search (rules, tests))
    ∙ ap (λ n. list_any (locks_at ws c.args.resource) (range_with_len 0 n)) c.steps.ensures ∙ uses_lem ws c.args.resource
