-- `work::largest` meets its contract: the greatest of what the chain yields, each task's D, is the largest D of the tasks.
-- Assumes nothing.
use mathlib.Core.List.{map}
use mathlib.Core.Path.{◌∙◌}
use Rattle.std.proofs.Common.{rules, tests}
use Rattle.std.proofs.lemmas.Iterator.{YieldsList-from_map, YieldsList-from_slice}
use Rattle.verdict.specs.declared.times.Times.{Times}
use Rattle.verdict.proofs.Greatest.{greatest, largest_of_times}
use Rattle.verdict.proofs.work.largest.Goals as goal

pub returns : goal.returns
returns c =
    let all = c.args.times.now in
    greatest _ _ (map (λ (x : Times). x.deadline) all) c.unwrap_or.ensures c.max.ensures.ran
    (YieldsList-from_map _ (λ (x : Times). x.deadline) (YieldsList-from_slice all (cc)) c.map.ensures.closure (λ x r q k. search (rules, tests)))
    ∙ largest_of_times all
