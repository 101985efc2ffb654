-- M1 to M12 hold: the runs, the findings and the single verdicts by computing the definitions; M9 and M10, which speak of many tables, by the laws of P.
-- Assumes nothing.
use mathlib.Core.Path.{refl}
use Rattle.sets.specs.Member.{bit, has, with_of, without_of}
use Rattle.numbers.specs.Any.{any_below}
use Rattle.table.specs.Check.{check_of, word_in, plan_in, task_in, tasks_in}
use Rattle.table.specs.Check as check
use Rattle.table.specs.Held.{held_from, holds}
use Rattle.table.specs.Floor.{locks, deadlines_of, least}
use Rattle.table.specs.Map.{padded, next_of}
use Rattle.machine.specs.Order.{best_from, who_runs}
use Rattle.machine.specs.Machine.{released, locked, unlocked, cleared, lateness, turn_of}
use Rattle.machine.specs.Moves.{accepted}
use Rattle.machine.specs.Away.{given, none_ready, held_by_another, locks_held}
use Rattle.verdict.specs.Demand.{demand_sum}
use Rattle.verdict.specs.Blocking.{blocking_plan, blocking_tasks}
use Rattle.verdict.specs.Multiple.{divisor_in, multiple_of, multiple_with}
use Rattle.verdict.specs.Verdict.{load_of, largest, first_late, judge, verdict_of}
use Rattle.verdict.proofs.Long.{one_period, second_period}
use Rattle.dispatch.specs.State.{table_in, fresh_state, zero_state}
use Rattle.torn.specs.Torn.{torn_table, torn_clock, torn_ready, torn_place, torn_times, torn_last, torn_count, torn_numbers, torn_by, torn_of}
use Rattle.dispatch.specs.Torn.{torn}
use Rattle.dispatch.specs.Dispatch.{start_of, release_of, step_of}
use Rattle.runs.specs.Run.{replies}
use Rattle.mornings.specs.Morning.{Holds, All}
use Rattle.mornings.specs.Mornings.{m1, m2, m3, m4, m5, m6, m7, m8, m11_empty, m11_zero, m12, mornings}

-- The single cases, computed.
runs_hold : Holds m1 × Holds m2 × Holds m12
unfolding replies bit has with_of without_of any_below check_of word_in plan_in task_in tasks_in check.step_in held_from holds locks deadlines_of least padded next_of best_from who_runs released locked unlocked cleared lateness turn_of accepted given none_ready held_by_another locks_held table_in fresh_state zero_state torn_table torn_clock torn_ready torn_place torn_times torn_last torn_count torn_numbers torn_by torn_of torn start_of release_of step_of
runs_hold = (refl, refl, refl)

verdicts_hold : Holds m3 × Holds m4 × Holds m5 × Holds m6 × Holds m7 × Holds m8
unfolding check_of word_in plan_in task_in tasks_in check.step_in holds locks deadlines_of least demand_sum blocking_plan blocking_tasks divisor_in multiple_of multiple_with load_of largest first_late judge verdict_of
verdicts_hold = (refl, refl, refl, refl, refl, refl)

findings_hold : Holds m11_empty × Holds m11_zero
unfolding check_of word_in
findings_hold = (refl, refl)

-- M1 to M12.
pub mornings_hold : All mornings
mornings_hold =
    let r = runs_hold in
    let v = verdicts_hold in
    let f = findings_hold in
    (r.0, (r.1, (v.0, (v.1, (v.2, (v.3, (v.4, (v.5, (one_period, (second_period, (f.0, (f.1, (r.2, tt)))))))))))))
