-- `machine::who_runs` meets its contract: the filter gives the ready ones of the sixteen tasks, and the key of each is its row's. Assumes nothing.
use Rattle.std.proofs.Common.{rules, tests}
use mathlib.Core.Path.{◌∙◌}
use native.Mathlib.Omega.{arith}
use Rattle.std.proofs.lemmas.Iterator.{YieldsList-from_range}
use Rattle.std.proofs.lemmas.Iterator.Consumers.{YieldsList-from_filter, reduce_from_yields_List}
use Rattle.sets.specs.Member.{has}
use Rattle.table.specs.Limits.{most_tasks}
use Rattle.machine.proofs.Choose.{earlier_of, picked, ready_best}
use Rattle.machine.proofs.who_runs.Goals as goal

pub returns : goal.returns
returns c =
    let kept = c.args.kept in
    let least = c.min_by_key.ensures in
    reduce_from_yields_List (earlier_of kept) c.filter.result c.min_by_key.result
    (picked kept _ _ c.filter.result c.min_by_key.result least.runs.0 least.ran (λ i k q h. search (rules, tests)))
    (YieldsList-from_filter _ (has kept.ready) (YieldsList-from_range 0 most_tasks most_tasks c.filter.ensures.source (omega arith)) c.filter.ensures.closure
    (λ x b q k. search (rules, tests)))
    ∙ ready_best kept
