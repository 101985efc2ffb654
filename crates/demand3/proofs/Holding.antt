-- Who holds something: one event back it did, or it ran and the event is its entry; nobody comes to hold anything at a release. Assumes nothing.
use Prim.Native.Nat.{ℕ, suc, ◌≤◌}
use mathlib.Core.Path.{◌≡◌, refl, sym, ap, ◌∙◌}
use mathlib.Core.Bool.{Bool, true, false, true≢false}
use mathlib.Core.List.{List}
use mathlib.Core.Logic.{◌⊎◌, inl, inr, ◌≢◌}
use native.Mathlib.Omega.{arith}
use Rattle.std.proofs.lemmas.Bool.{cases_eq}
use Rattle.table.specs.Limits.{most_tasks}
use Rattle.table.specs.Table.{Table, tasks_of}
use Rattle.table.specs.Check.{nothing_held}
use Rattle.table.specs.Held.{held_from}
use Rattle.machine.specs.declared.Job.{Job}
use Rattle.dispatch.specs.declared.State.{State}
use Rattle.runs.specs.Run.{Event}
use Rattle.demand3.specs.Demand3.{state_at, held, Ready, Running, Released, Holding, Entered}
use Rattle.machine.proofs.Rows.{Changed}
use Rattle.demand3.proofs.Events.{Good, Releasing, Stepping, Passed, quiet, releasing, stepping, passed}
use Rattle.demand3.proofs.Ready.{ready_before, held_before_lem, table_next, one_task_lem, runner_ready}

module _ (ws : List ℕ) (events : List Event) (table : Table) (tasks : tasks_of table ≤ most_tasks)
    (good : (p : ℕ) → Good table (state_at ws events p)) where
  -- A new job holds nothing.
  new_free : (p : ℕ) (r : Releasing ws events p) → nothing_held (held (state_at ws events (suc p)) r.task) ≡ true
  unfolding held_from
  new_free p r = rw (r.changes.row, r.place)

  -- A job that another's event leaves alone holds what it held.
  holding_other : (p y : ℕ) (h : Holding (state_at ws events (suc p)) y) {k : ℕ} {job : Job} {on : Bool} →
      Changed (state_at ws events p).kept (state_at ws events (suc p)).kept k job on → h.task ≢ k → Holding (state_at ws events p) y
  holding_other p y h c n = record {
    task = h.task;
    ready = ready_before (state_at ws events p) (state_at ws events (suc p)) (table_next ws events table tasks good p) c n h.ready;
    something = rw (held_before_lem (state_at ws events p) (state_at ws events (suc p)) (table_next ws events table tasks good p) c h.task n) at h.something;
  }

  holding_new : (p y : ℕ) → Releasing ws events p → Holding (state_at ws events (suc p)) y → Holding (state_at ws events p) y
  holding_new p y r h = elim (cases_eq h.task r.task) [
    | inl e ↦ absurd (true≢false (sym (new_free p r) ∙ (rw e at h.something)))
    | inr n ↦ holding_other p y h r.changes n
  ]

  pub held_back : (p y : ℕ) → Holding (state_at ws events (suc p)) y →
      (Holding (state_at ws events p) y) ⊎ (Entered ws events p y × ((j : ℕ) × Running (state_at ws events p) j y))
  held_back p y h = pick (passed ws events table tasks good p)
    where
      steps : (st : Stepping ws events p) → h.task ≡ st.task → (b : Bool) → nothing_held (held (state_at ws events p) st.task) ≡ b →
          (Holding (state_at ws events p) y) ⊎ (Entered ws events p y × ((j : ℕ) × Running (state_at ws events p) j y))
      steps st e b q = decide b q
        where
          on : st.on ≡ true
          on = sym st.changes.bit ∙ (rw e at h.ready.ready)

          running : Running (state_at ws events p) st.task y
          running = record {
            runs = st.runs;
            number = sym (st.number on) ∙ sym (ap (λ (row : Job). row.number) st.changes.row) ∙ (rw e at h.ready.number);
          }

          ready : Ready (state_at ws events p) st.task y
          ready = runner_ready ws events table tasks good p st.task y running

          decide : (b : Bool) → nothing_held (held (state_at ws events p) st.task) ≡ b →
              (Holding (state_at ws events p) y) ⊎ (Entered ws events p y × ((j : ℕ) × Running (state_at ws events p) j y))
          decide true q =
              inr (
                record {
                  happened = st.heeded.happened;
                  before = record { task = st.task; ready = ready; nothing = q };
                  after = h;
                },
                (st.task, running),
              )
          decide false q = inl (record { task = st.task; ready = ready; something = q })

      pick : Passed ws events p → (Holding (state_at ws events p) y) ⊎ (Entered ws events p y × ((j : ℕ) × Running (state_at ws events p) j y))
      pick (quiet q) = inl (rw q.same at h)
      pick (releasing r) = inl (holding_new p y r h)
      pick (stepping st) = elim (cases_eq h.task st.task) [
        | inl e ↦ steps st e (nothing_held (held (state_at ws events p) st.task)) refl
        | inr n ↦ inl (holding_other p y h st.changes n)
      ]

  -- A release raises the count, so it is neither a refused event nor a step, and nobody comes to hold anything at it.
  pub held_released : (p x y : ℕ) → Released ws events p x → Holding (state_at ws events (suc p)) y → Holding (state_at ws events p) y
  held_released p x y r h = pick (passed ws events table tasks good p)
    where
      pick : Passed ws events p → Holding (state_at ws events p) y
      pick (quiet q) = absurd (omega (arith, ap (λ (s : State). s.kept.count) q.same, r.before, r.after))
      pick (releasing r) = holding_new p y r h
      pick (stepping st) = absurd (omega (arith, st.count, r.before, r.after))

  pub free_not : (p y : ℕ) → Entered ws events p y → Holding (state_at ws events p) y → ⊥
  free_not p y e h =
      let same : e.before.task ≡ h.task = one_task_lem ws events table tasks good p e.before.task h.task y e.before.ready h.ready in
      true≢false (sym (rw same at e.before.nothing) ∙ h.something)
