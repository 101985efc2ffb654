-- `search::Search::blocking_plan` meets its contract: the greatest of what the chain yields, what each step has, is the greatest over the plan.
-- Assumes nothing.
use mathlib.Core.List.{map}
use mathlib.Core.Path.{◌∙◌}
use lib.ListN.{length}
use Rattle.std.proofs.Common.{arith, rules, tests}
use Rattle.std.proofs.lemmas.Iterator.{YieldsList-from_map, YieldsList-from_range}
use Rattle.std.specs.List.{range_with_len}
use Rattle.table.specs.Table.{task_of}
use Rattle.verdict.specs.Searched.{searched}
use Rattle.verdict.proofs.Greatest.{greatest, step_at, plan_greatest}
use Rattle.verdict.proofs.search.Search.blocking_plan.Goals as goal

pub returns : goal.returns
returns c =
    let table = searched c.args.self.now in
    let plan = (task_of table c.args.task).plan in
    greatest _ _ (map (step_at table c.args.t plan) (range_with_len 0 (length plan))) c.unwrap_or.ensures c.max.ensures.ran
    (YieldsList-from_map _ (step_at table c.args.t plan) (YieldsList-from_range 0 c.steps.result (length plan) (cc) (omega (arith, c.steps.ensures))) c.map.ensures.closure (λ x r q k. search (rules, tests)))
    ∙ plan_greatest table c.args.t plan
