-- `Walk::read_tasks` meets its contract: a step leads to the rest of its plan or ends it (law `plan_goes`), so does a task (law `tasks_go`), and
-- each start is marked. Assumes nothing.
use Prim.Native.Nat.{◌+◌, ◌-◌}
use mathlib.Core.Path.{◌≡◌, sym, ◌∙◌}
use native.Mathlib.Omega.{arith}
use lib.ListN.{length}
use Rattle.table.specs.Walk.{standing_in}
use Rattle.table.proofs.Reading.{plan_goes, plan_ends, step_room, tasks_go, task_ends, tasks_end}
use Rattle.table.proofs.Starts.{start_marked, starts_marked}
use Rattle.table.proofs.walk.Walk.read_tasks.Goals as goal

pub returns-in-Err-clause-read : goal.returns-in-Err-clause-read
returns-in-Err-clause-read c = let w = c.args.self.now in
    let l = c.loop-start in
    let n = length c.args.starts.now in
    tasks_go (n - l.start-index) (n - (l.start-index + 1)) w.resources w.words.now l.at _ _ (omega arith) l.invariant.goes c.in-Err.ensures.read

pub loop-preserved : goal.loop-preserved
loop-preserved c = let w = c.args.self.now in
    let h = c.in-Ok.head in
    let l = c.loop in
    let s = c.in-Ok-read_step in
    record {
      room = step_room w.resources h.cost (standing_in l.sections) w.words.now l.at (standing_in s.next) (l.at + 3) s.ensures;
      goes = plan_goes (h.steps - l.counter) (h.steps - (l.counter + 1)) w.resources h.cost (standing_in l.sections) w.words.now l.at _ _ (omega arith) l.invariant.goes s.ensures;
    }

pub returns-in-Err-read_step-clause-read : goal.returns-in-Err-read_step-clause-read
returns-in-Err-read_step-clause-read c = let w = c.args.self.now in
    let o = c.loop-start in
    let n = length c.args.starts.now in
    let h = c.in-Ok.head in
    let l = c.loop in
    let plan = plan_goes (h.steps - l.counter) (h.steps - (l.counter + 1)) w.resources h.cost (standing_in l.sections) w.words.now l.at _ _ (omega arith) l.invariant.goes c.in-Err-read_step.ensures in
    tasks_go (n - o.start-index) (n - (o.start-index + 1)) w.resources w.words.now o.at _ _ (omega arith) o.invariant.goes (plan ∙ c.in-Ok.ensures.read)

pub loop-start-preserved : goal.loop-start-preserved
loop-start-preserved c = let w = c.args.self.now in
    let o = c.loop-start in
    let n = length c.args.starts.now in
    let left = n - (o.start-index + 1) in
    let h = c.in-Ok.head in
    let l = c.loop in
    let s = l.sections in
    let flat : s.depth ≡ 0 = omega arith in
    let task = sym (plan_ends (h.steps - l.counter) w.resources h.cost s.depth s.sections s.spare w.words.now l.at (omega arith) flat) ∙ l.invariant.goes ∙ c.in-Ok.ensures.read in
    let t = task_ends w.resources w.words.now o.at l.at task in
    record {
      room = t.there;
      goes = tasks_go (n - o.start-index) left w.resources w.words.now o.at _ _ (omega arith) o.invariant.goes task;
      marked = rw t.place (start_marked (n - o.start-index) left o.start-index o.at w.words.now o.starts _ (omega arith) (omega arith) o.invariant.marked);
    }

pub returns-after-loop-start-clause-read : goal.returns-after-loop-start-clause-read
returns-after-loop-start-clause-read c = let w = c.args.self.now in
    let l = c.loop-start in
    sym (tasks_end _ w.resources w.words.now l.at (omega arith)) ∙ l.invariant.goes

pub returns-after-loop-start-clause-marked : goal.returns-after-loop-start-clause-marked
returns-after-loop-start-clause-marked c = let l = c.loop-start in
    starts_marked (length c.args.starts.now - l.start-index) l.start-index l.at c.args.self.now.words.now l.starts _ (omega arith) (omega arith) l.invariant.marked
