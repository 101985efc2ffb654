-- Who runs, and whom the replies name: an accepted reply names the job that runs after it. Assumes nothing.
use Prim.Native.Nat.{ℕ, suc, ◌≤◌}
use mathlib.Core.Path.{◌≡◌, sym, ap, ◌∙◌}
use mathlib.Core.List.{List}
use mathlib.Core.Logic.{◌⊎◌, inl, inr}
use Rattle.std.specs.Prelude.{Some}
use Rattle.numbers.proofs.Tests.{never}
use Rattle.table.specs.Limits.{most_tasks}
use Rattle.table.specs.Table.{Table, tasks_of}
use Rattle.machine.specs.Order.{row_of}
use Rattle.machine.specs.Reply.{runs, idle}
use Rattle.machine.specs.Machine.{turn_of}
use Rattle.runs.specs.Run.{Event}
use Rattle.demand3.specs.Demand3.{state_at, Running, Named}
use Rattle.machine.proofs.Turn.{turn_runs, turn_told}
use Rattle.demand3.proofs.Events.{Good, Heeded, Passed, quiet, releasing, stepping, passed}
use Rattle.demand3.proofs.Ready.{runner_ready}

module _ (ws : List ℕ) (events : List Event) (table : Table) (tasks : tasks_of table ≤ most_tasks)
    (good : (p : ℕ) → Good table (state_at ws events p)) where
  runs_same : {i j : ℕ} → Some i ≡ Some j → i ≡ j
  runs_same e = cc

  pub runs_one : (p x y : ℕ) → ((i : ℕ) × Running (state_at ws events p) i x) → ((j : ℕ) × Running (state_at ws events p) j y) → x ≡ y
  runs_one p x y h k =
      let same : h.0 ≡ k.0 = runs_same (sym h.1.runs ∙ k.1.runs) in
      sym h.1.number ∙ ap (λ (i : ℕ). (row_of (state_at ws events p).kept i).number) same ∙ k.1.number

  heeded_named : (p x : ℕ) → Heeded ws events p → ((j : ℕ) × Running (state_at ws events (suc p)) j x) → Named ws events p x
  unfolding turn_of
  heeded_named p x h r = record {
    happened = h.happened;
    task = r.0;
    deadline = (row_of (state_at ws events (suc p)).kept r.0).active;
    names = h.names ∙ turn_runs (state_at ws events (suc p)).kept r.0 r.1.runs;
    ready = runner_ready ws events table tasks good (suc p) r.0 x r.1;
  }

  pub runs_back : (p x : ℕ) → ((j : ℕ) × Running (state_at ws events (suc p)) j x) →
      (Named ws events p x) ⊎ ((j : ℕ) × Running (state_at ws events p) j x)
  runs_back p x r = pick (passed ws events table tasks good p)
    where
      pick : Passed ws events p → (Named ws events p x) ⊎ ((j : ℕ) × Running (state_at ws events p) j x)
      pick (quiet q) = inr (rw q.same at r)
      pick (releasing l) = inl (heeded_named p x l.heeded r)
      pick (stepping st) = inl (heeded_named p x st.heeded r)

  -- A reply names the job that runs after it.
  pub named_runs : (p x : ℕ) → Named ws events p x → (j : ℕ) × Running (state_at ws events (suc p)) j x
  unfolding turn_of
  named_runs p x n = pick (passed ws events table tasks good p)
    where
      heeded : Heeded ws events p → (j : ℕ) × Running (state_at ws events (suc p)) j x
      heeded h = (
        n.task,
        record {
          runs = (turn_told (state_at ws events (suc p)).kept n.task n.deadline (sym h.names ∙ n.names)).0;
          number = n.ready.number;
        },
      )

      pick : Passed ws events p → (j : ℕ) × Running (state_at ws events (suc p)) j x
      pick (quiet q) =
          let t : idle ≡ runs n.task n.deadline = sym (q.nobody n.happened) ∙ n.names in
          never (cc)
      pick (releasing r) = heeded r.heeded
      pick (stepping st) = heeded st.heeded
