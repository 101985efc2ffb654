-- Who is ready: from its release on, with one base deadline and one task; one event back it was, or the event is its release. Assumes nothing.
use Prim.Native.Nat.{ℕ, zero, suc, ◌≤◌, ◌<◌}
use mathlib.Core.Path.{◌≡◌, sym, ap, ◌∙◌}
use mathlib.Core.Bool.{Bool, true, true≢false}
use mathlib.Core.List.{List}
use mathlib.Core.Logic.{◌⊎◌, inl, inr, ◌≢◌}
use native.Mathlib.Omega.{arith}
use native.Mathlib.Decide.{dec_lt}
use native.Mathlib.Nat.{le_refl, eq-or-lt_of_le}
use Rattle.std.proofs.lemmas.Bool.{cases_eq}
use Rattle.sets.proofs.Digit.{has_zero}
use Rattle.table.specs.Limits.{most_tasks}
use Rattle.table.specs.Table.{Table, tasks_of}
use Rattle.machine.specs.Order.{row_of}
use Rattle.machine.specs.declared.Job.{Job}
use Rattle.dispatch.specs.State.{table_in}
use Rattle.dispatch.specs.declared.State.{State}
use Rattle.runs.specs.Run.{Event}
use Rattle.demand3.specs.Demand3.{state_at, held, Ready, Running, Released}
use Rattle.machine.proofs.Rows.{Changed}
use Rattle.demand3.proofs.States.{state_first}
use Rattle.demand3.proofs.Events.{Good, Releasing, Stepping, Passed, quiet, releasing, stepping, passed}

-- ---- rows that an event leaves alone

module _ (s next : State) {i : ℕ} {job : Job} {on : Bool} (same : table_in next ≡ table_in s) (c : Changed s.kept next.kept i job on) where
  pub ready_before : {j x : ℕ} → j ≢ i → Ready next j x → Ready s j x
  ready_before {j} {x} n r = record {
    task = rw same at r.task;
    ready = sym (c.bits j n) ∙ r.ready;
    number = sym (ap (λ (row : Job). row.number) (c.others j n)) ∙ r.number;
  }

  pub held_before_lem : (j : ℕ) → j ≢ i → held next j ≡ held s j
  held_before_lem j n = rw (same, c.others j n)

-- ---- one position

-- Job x is ready, with base deadline d.
pub record Known (s : State) (x d : ℕ) : Type 0 where
  pub task : ℕ
  pub ready : Ready s task x
  pub base : (row_of s.kept task).base ≡ d

module _ (ws : List ℕ) (events : List Event) (table : Table) (tasks : tasks_of table ≤ most_tasks)
    (good : (p : ℕ) → Good table (state_at ws events p)) where
  -- The table stays.
  pub table_next : (p : ℕ) → table_in (state_at ws events (suc p)) ≡ table_in (state_at ws events p)
  table_next p = (good (suc p)).same ∙ sym (good p).same

  -- A release number is one task's.
  pub one_task_lem : (p i j x : ℕ) → Ready (state_at ws events p) i x → Ready (state_at ws events p) j x → i ≡ j
  one_task_lem p i j x h k = (good p).numbers i j h.ready k.ready (h.number ∙ sym k.number)

  pub known_one : (p x d e : ℕ) → Known (state_at ws events p) x d → Known (state_at ws events p) x e → d ≡ e
  known_one p x d e h k =
      sym h.base ∙ ap (λ (i : ℕ). (row_of (state_at ws events p).kept i).base) (one_task_lem p h.task k.task x h.ready k.ready) ∙ k.base

  pub nobody_first : {x d : ℕ} → Known (state_at ws events 0) x d → ⊥
  nobody_first h = true≢false (sym (rw (state_first ws events) at h.ready.ready) ∙ has_zero h.task)

  -- Who runs is ready.
  pub runner_ready : (p j y : ℕ) → Running (state_at ws events p) j y → Ready (state_at ws events p) j y
  runner_ready p j y r = record {
    task = rw (good p).same ((good p).below j ((good p).who j r.runs));
    ready = (good p).who j r.runs;
    number = r.number;
  }

  -- ---- the count of accepted releases

  count_next : (p : ℕ) → (state_at ws events p).kept.count ≤ (state_at ws events (suc p)).kept.count
  count_next p = pick (passed ws events table tasks good p)
    where
      pick : Passed ws events p → (state_at ws events p).kept.count ≤ (state_at ws events (suc p)).kept.count
      pick (quiet q) = omega (arith, ap (λ (s : State). s.kept.count) q.same)
      pick (releasing r) = omega (arith, r.count)
      pick (stepping st) = omega (arith, st.count)

  count_later : (p m : ℕ) → p ≤ m → (state_at ws events p).kept.count ≤ (state_at ws events m).kept.count
  count_later p zero l = let e : p ≡ 0 = omega arith in rw e (le_refl _)
  count_later p (suc m) l = pick (count_later p m) (eq-or-lt_of_le l)
    where
      pick : (p ≤ m → (state_at ws events p).kept.count ≤ (state_at ws events m).kept.count) → (p ≡ suc m) ⊎ (p < suc m) →
          (state_at ws events p).kept.count ≤ (state_at ws events (suc m)).kept.count
      pick ih (inl e) = rw e (le_refl _)
      pick ih (inr k) = omega (arith, ih (omega arith), count_next m)

  -- A job is ready only after its release.
  pub ready_later : (m p x d : ℕ) → Released ws events m x → Known (state_at ws events p) x d → m < p
  ready_later m p x d r h = pick (dec_lt m p)
    where
      pick : Dec (m < p) → m < p
      pick (yes l) = l
      pick (no n) =
          absurd (omega (arith, count_later p m (omega arith), (good p).number h.task h.ready.ready, h.ready.number, r.before))

  -- ---- one event back

  pub known_back : (p x d : ℕ) → Known (state_at ws events (suc p)) x d → (Known (state_at ws events p) x d) ⊎ (Released ws events p x)
  known_back p x d h = pick (passed ws events table tasks good p)
    where
      i : ℕ
      i = h.task

      other : {k : ℕ} {job : Job} {on : Bool} → Changed (state_at ws events p).kept (state_at ws events (suc p)).kept k job on → i ≢ k →
          Known (state_at ws events p) x d
      other c n = record {
        task = i;
        ready = ready_before (state_at ws events p) (state_at ws events (suc p)) (table_next p) c n h.ready;
        base = sym (ap (λ (row : Job). row.base) (c.others i n)) ∙ h.base;
      }

      new : (r : Releasing ws events p) → i ≡ r.task → Released ws events p x
      new r e =
          let before : (state_at ws events p).kept.count ≡ x =
          sym r.number ∙ sym (ap (λ (row : Job). row.number) r.changes.row) ∙ (rw e at h.ready.number) in
          record {
            happened = r.heeded.happened;
            task = r.task;
            time = r.time;
            event = r.event;
            before = before;
            after = r.count ∙ ap suc before;
            ready = rw e at h.ready;
          }

      old : (st : Stepping ws events p) → i ≡ st.task → Known (state_at ws events p) x d
      old st e =
          let on : st.on ≡ true = sym st.changes.bit ∙ (rw e at h.ready.ready) in
          let row = st.changes.row in
          record {
            task = st.task;
            ready = runner_ready p st.task x (record {
              runs = st.runs;
              number = sym (st.number on) ∙ sym (ap (λ (row : Job). row.number) row) ∙ (rw e at h.ready.number);
            });
            base = sym (st.base on) ∙ sym (ap (λ (row : Job). row.base) row) ∙ (rw e at h.base);
          }

      pick : Passed ws events p → (Known (state_at ws events p) x d) ⊎ (Released ws events p x)
      pick (quiet q) = inl (rw q.same at h)
      pick (releasing r) = elim (cases_eq i r.task) [ inl e ↦ inr (new r e) | inr n ↦ inl (other r.changes n) ]
      pick (stepping st) = elim (cases_eq i st.task) [ inl e ↦ inl (old st e) | inr n ↦ inl (other st.changes n) ]
