-- The run of the machine as General sees it: for each position who is ready, runs and holds something, for each event whom its reply names, which job it releases
-- and who enters an outermost section. These are the ghost figures; the machine reads none of them. Its facts come from Ready, Holding and Running.
-- Assumes nothing beyond what it is handed: what every reachable state has (`Good`).
use Prim.Native.Nat.{ℕ, ◌≤◌}
use mathlib.Core.Path.{refl}
use mathlib.Core.List.{List}
use Rattle.table.specs.Limits.{most_tasks}
use Rattle.table.specs.Table.{Table, tasks_of}
use Rattle.runs.specs.Run.{Event}
use Rattle.demand3.specs.Demand3.{state_at, Running, Named, Released, Holding, Entered}
use Rattle.demand3.proofs.General.{Run, Facts}
use Rattle.demand3.proofs.Events.{Good}
use Rattle.demand3.proofs.Ready.{Known, known_one, nobody_first, runner_ready, ready_later, known_back}
use Rattle.demand3.proofs.Holding.{held_back, held_released, free_not}
use Rattle.demand3.proofs.Running.{runs_one, runs_back}

-- The run as General sees it.
abbrev pub run_of : List ℕ → List Event → Run
run_of ws events = record {
  Ready = λ p x d. Known (state_at ws events p) x d;
  Running = λ p y. (j : ℕ) × Running (state_at ws events p) j y;
  Holding = λ p y. Holding (state_at ws events p) y;
  Named = λ q x. Named ws events q x;
  Released = λ m x. Released ws events m x;
  Entered = λ q y. Entered ws events q y;
}

module _ (ws : List ℕ) (events : List Event) (table : Table) (tasks : tasks_of table ≤ most_tasks)
    (good : (p : ℕ) → Good table (state_at ws events p)) where
  -- The facts of General, of this run.
  pub run_facts : Facts (run_of ws events)
  run_facts = record {
    nobody = λ h. nobody_first ws events table tasks good h;
    ready_back = λ {p} {x} {d} h. known_back ws events table tasks good p x d h;
    one_base = λ {p} {x} {d} {e} h k. known_one ws events table tasks good p x d e h k;
    later = λ {m} {p} {x} {d} r h. ready_later ws events table tasks good m p x d r h;
    running_ready = λ {p} {x} r. (_, record { task = r.0; ready = runner_ready ws events table tasks good p r.0 x r.1; base = refl });
    running_one = λ {p} {x} {y} h k. runs_one ws events table tasks good p x y h k;
    running_back = λ {p} {x} r. runs_back ws events table tasks good p x r;
    holding_ready = λ {p} {x} h. (_, record { task = h.task; ready = h.ready; base = refl });
    holding_back = λ {p} {x} h. held_back ws events table tasks good p x h;
    holding_released = λ {p} {x} {y} r h. held_released ws events table tasks good p x y r h;
    entered_free = λ {p} {x} e h. free_not ws events table tasks good p x e h;
  }
