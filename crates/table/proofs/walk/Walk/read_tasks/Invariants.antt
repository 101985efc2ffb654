-- What is left of a plan ends as the whole plan does, what is left of the table as the whole table, and with the starts that are marked come all.
-- Assumes nothing.
use Prim.Native.Nat.{◌-◌, ◌≤◌}
use mathlib.Core.Path.{◌≡◌}
use mathlib.Core.List.{◌++◌}
use lib.ListN.{length, take}
use Rattle.table.specs.Limits.{at_tasks}
use Rattle.table.specs.Check.{tasks_in}
use Rattle.table.specs.Map.{starts_from}
use Rattle.table.specs.Walk.{end_of, standing_first, standing_in, plan_from}
use Rattle.table.proofs.walk.Walk.read_tasks.Given as goal

abbrev pub invariant-loop : goal.invariant-loop
invariant-loop l = record {
  room : l.at ≤ length l.self.words.now;
  goes : end_of (plan_from (l.end - l.counter) l.self.resources l.head.cost (standing_in l.sections) l.self.words.now l.at) ≡ end_of (plan_from l.head.steps l.self.resources l.head.cost (standing_first l.head.cost) l.self.words.now l.initial.at);
}

abbrev pub invariant-loop-start : goal.invariant-loop-start
invariant-loop-start l = record {
  room : l.at ≤ length l.self.words.now;
  goes : end_of (tasks_in (length l.fn.starts - l.start-index) l.self.resources l.self.words.now l.at) ≡ end_of (tasks_in (length l.fn.starts) l.self.resources l.self.words.now at_tasks);
  marked : take l.start-index l.starts ++ starts_from (length l.fn.starts - l.start-index) l.self.words.now l.at ≡ starts_from (length l.fn.starts) l.self.words.now at_tasks;
}
