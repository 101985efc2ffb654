-- The blocking sentences of demand 3, for the machine with its floors: its runs have the facts that General and Ahead ask for. That an active deadline is at most
-- the base, and equal to it where nothing is held, is read off the stack of entry values; that the running job is least is what `who_runs` chooses.
-- Assumes nothing but that the words pass the check.
use Prim.Native.Nat.{ℕ, suc, ◌≤◌}
use mathlib.Core.Path.{◌≡◌, refl, sym, ap, ◌∙◌}
use mathlib.Core.Bool.{Bool, true, false, true≢false}
use mathlib.Core.List.{List, [], ◌∷◌}
use mathlib.Core.Logic.{◌⊎◌, inl, inr, ◌≢◌}
use native.Mathlib.Omega.{arith}
use lib.ListN.{take}
use Rattle.std.proofs.lemmas.Bool.{cases_eq}
use Rattle.sets.specs.Member.{has}
use Rattle.table.specs.Limits.{most_tasks}
use Rattle.table.specs.Table.{Table, tasks_of}
use Rattle.table.specs.Check.{sound, check_of, nothing_held}
use Rattle.table.specs.Held.{Section}
use Rattle.table.specs.Valid.{Valid}
use Rattle.table.proofs.Laws.{checked_valid}
use Rattle.machine.specs.Order.{Sooner, row_of}
use Rattle.machine.specs.declared.Job.{Job}
use Rattle.machine.proofs.Order.{who_ready}
use Rattle.dispatch.specs.declared.State.{State}
use Rattle.runs.specs.Run.{Event}
use Rattle.demand3.specs.Demand3.{state_at, held, Ready, Running, Blocked, HadTurn, Inside, EnteredBefore, Same, Holding}
use Rattle.machine.proofs.Rows.{Changed}
use Rattle.runs.proofs.Stack.{stack_none, stack_base}
use Rattle.runs.proofs.Reached.{Reached, run_reached, reached_whole, table_stays}
use Rattle.demand3.proofs.Separate.{runs_first}
use Rattle.demand3.proofs.General.{Facts, Policy, Within, Blocks, blocked_entered, blocked_same}
use Rattle.demand3.proofs.Ahead.{Floors, floors_policy}
use Rattle.demand3.proofs.Events.{Good, Passed, quiet, releasing, stepping, Releasing, Stepping, passed}
use Rattle.demand3.proofs.Ready.{Known, ready_before, table_next, one_task_lem, runner_ready}
use Rattle.demand3.proofs.Running.{named_runs}
use Rattle.demand3.proofs.RunFacts.{run_of, run_facts}

-- Job x is ready, with active deadline a.
pub record Acting (s : State) (x a : ℕ) : Type 0 where
  pub task : ℕ
  pub ready : Ready s task x
  pub active : (row_of s.kept task).active ≡ a

nothing_none : (l : List Section) → nothing_held l ≡ true → l ≡ []
nothing_none [] e = refl
nothing_none (s ∷ l) e = absurd (true≢false (sym e))

module _ (ws : List ℕ) (table : Table) (ok : check_of ws ≡ sound table) (events : List Event) where
  valid : Valid table
  valid = checked_valid ws table ok

  tasks : tasks_of table ≤ most_tasks
  tasks = valid.tasks_most

  pub reached_at : (p : ℕ) → Reached ws table (state_at ws events p)
  unfolding state_at
  reached_at p = run_reached ws table ok (take p events)

  pub good : (p : ℕ) → Good table (state_at ws events p)
  good p =
      let r = reached_at p in
      record {
        whole = reached_whole ws table ok r;
        same = table_stays ws table ok r;
        rows = r.shape.rows;
        below = λ i h. (r.shape.going i h).below;
        number = λ i h. (r.shape.going i h).number;
        numbers = λ i j h k e. elim (cases_eq i j) [ inl q ↦ q | inr n ↦ absurd (r.shape.numbers i j n h k e) ];
        who = λ i e. (who_ready (state_at ws events p).kept i e).1;
      }

  pub facts : Facts (run_of ws events)
  facts = run_facts ws events table tasks good

  -- ---- active deadlines

  stack_of : (p i : ℕ) → has (state_at ws events p).kept.ready i ≡ true →
      (row_of (state_at ws events p).kept i).active ≤ (row_of (state_at ws events p).kept i).base
  stack_of p i h = stack_base ((reached_at p).shape.going i h).stack

  known_acting : (p x d : ℕ) → Known (state_at ws events p) x d → (a : ℕ) × Acting (state_at ws events p) x a × (a ≤ d)
  known_acting p x d h =
      (_, record { task = h.task; ready = h.ready; active = refl }, rw h.base at (stack_of p h.task h.ready.ready))

  -- Who holds nothing has its base deadline.
  free_plain : (p i : ℕ) → has (state_at ws events p).kept.ready i ≡ true → nothing_held (held (state_at ws events p) i) ≡ true →
      (row_of (state_at ws events p).kept i).active ≡ (row_of (state_at ws events p).kept i).base
  free_plain p i h e =
      let none : held (state_at ws events p) i ≡ [] = nothing_none _ e in
      stack_none (rw (rw (good p).same at none) at ((reached_at p).shape.going i h).stack)

  acting_plain : (p x d a : ℕ) → Known (state_at ws events p) x d → Acting (state_at ws events p) x a → (Holding (state_at ws events p) x) ⊎ (a ≡ d)
  acting_plain p x d a h k = decide (nothing_held (held (state_at ws events p) h.task)) refl
    where
      same : k.task ≡ h.task
      same = one_task_lem ws events table tasks good p k.task h.task x k.ready h.ready

      decide : (b : Bool) → nothing_held (held (state_at ws events p) h.task) ≡ b → (Holding (state_at ws events p) x) ⊎ (a ≡ d)
      decide true e =
          let active : a ≡ (row_of (state_at ws events p).kept h.task).active = sym (rw same at k.active) in
          inr (active ∙ free_plain p h.task h.ready.ready e ∙ h.base)
      decide false e = inl (record { task = h.task; ready = h.ready; something = e })

  -- Only the running job's active deadline changes.
  acting_back : (p x d a : ℕ) → Known (state_at ws events p) x d → Acting (state_at ws events (suc p)) x a →
      (Acting (state_at ws events p) x a) ⊎ ((j : ℕ) × Running (state_at ws events p) j x)
  acting_back p x d a h k = pick (passed ws events table tasks good p)
    where
      other : {i : ℕ} {job : Job} {on : Bool} → Changed (state_at ws events p).kept (state_at ws events (suc p)).kept i job on → k.task ≢ i →
          Acting (state_at ws events p) x a
      other c n = record {
        task = k.task;
        ready = ready_before (state_at ws events p) (state_at ws events (suc p)) (table_next ws events table tasks good p) c n k.ready;
        active = sym (ap (λ (row : Job). row.active) (c.others k.task n)) ∙ k.active;
      }

      new : (r : Releasing ws events p) → k.task ≡ r.task → ⊥
      new r e =
          let number : (state_at ws events p).kept.count ≡ x =
          sym r.number ∙ sym (ap (λ (row : Job). row.number) r.changes.row) ∙ (rw e at k.ready.number) in
          omega (arith, (good p).number h.task h.ready.ready, h.ready.number)

      runs : (st : Stepping ws events p) → k.task ≡ st.task → Running (state_at ws events p) st.task x
      runs st e =
          let on : st.on ≡ true = sym st.changes.bit ∙ (rw e at k.ready.ready) in
          record {
            runs = st.runs;
            number = sym (st.number on) ∙ sym (ap (λ (row : Job). row.number) st.changes.row) ∙ (rw e at k.ready.number);
          }

      pick : Passed ws events p → (Acting (state_at ws events p) x a) ⊎ ((j : ℕ) × Running (state_at ws events p) j x)
      pick (quiet q) = inl (rw q.same at k)
      pick (releasing r) = elim (cases_eq k.task r.task) [ inl e ↦ absurd (new r e) | inr n ↦ inl (other r.changes n) ]
      pick (stepping st) = elim (cases_eq k.task st.task) [ inl e ↦ inr (st.task, runs st e) | inr n ↦ inl (other st.changes n) ]

  -- "The running job is the ready one with the earliest active deadline. Among equals it is the one whose release was accepted first"
  acting_least : (p x y a b : ℕ) → ((j : ℕ) × Running (state_at ws events p) j x) → Acting (state_at ws events p) x a → Acting (state_at ws events p) y b →
      (x ≡ y) ⊎ (Sooner a x b y)
  acting_least p x y a b r h k = elim (cases_eq k.task r.0) [
    | inl e ↦ inl (sym r.1.number ∙ ap (λ (i : ℕ). (row_of (state_at ws events p).kept i).number) (sym e) ∙ k.ready.number)
    | inr n ↦ inr (rw (active, r.1.number, k.active, k.ready.number) at (first n))
  ]
    where
      same : h.task ≡ r.0
      same = one_task_lem ws events table tasks good p h.task r.0 x h.ready (runner_ready ws events table tasks good p r.0 x r.1)

      active : (row_of (state_at ws events p).kept r.0).active ≡ a
      active = rw same at h.active

      first : k.task ≢ r.0 → Sooner (row_of (state_at ws events p).kept r.0).active (row_of (state_at ws events p).kept r.0).number
          (row_of (state_at ws events p).kept k.task).active (row_of (state_at ws events p).kept k.task).number
      first n = runs_first valid (reached_at p).shape r.0 k.task r.1.runs n k.ready.ready

  pub floors : Floors (run_of ws events)
  floors = record {
    Active = λ p x a. Acting (state_at ws events p) x a;
    has_active = λ {p} {x} {d} h. known_acting p x d h;
    plain = λ {p} {x} {d} {a} h k. acting_plain p x d a h k;
    active_back = λ {p} {x} {d} {a} h k. acting_back p x d a h k;
    least = λ {p} {x} {y} {a} {b} r h k. acting_least p x y a b r h k;
    named_running = λ {p} {x} n. named_runs ws events table tasks good p x n;
  }

  policy : Policy (run_of ws events)
  policy = floors_policy (run_of ws events) facts floors

  -- ---- the three sentences

  blocks : (p x y : ℕ) → Blocked (state_at ws events p) x y → Blocks (run_of ws events) p x y
  blocks p x y b = record {
    base = (row_of (state_at ws events p).kept b.task).base;
    other = (row_of (state_at ws events p).kept b.other).base;
    ready = record { task = b.task; ready = b.ready; base = refl };
    running = (b.other, b.running);
    runs = record { task = b.other; ready = runner_ready ws events table tasks good p b.other y b.running; base = refl };
    after = rw (b.ready.number, b.running.number) at b.after;
  }

  pub blocked_unturned : (p x y : ℕ) → Blocked (state_at ws events p) x y → ¬ HadTurn ws events p x
  blocked_unturned p x y b h = policy.turned (record { event = h.event; before = h.before; named = h.named }) (blocks p x y b)

  pub blocked_inside : (p x y : ℕ) → Blocked (state_at ws events p) x y → EnteredBefore ws events p x y
  blocked_inside p x y b =
      let e = blocked_entered (run_of ws events) facts policy (blocks p x y b) in
      record {
        entry = e.entry;
        release = e.release;
        inside = record { since = e.within.since; entered = e.within.entered; between = e.within.between };
        released = e.released;
        before = e.before;
        since = e.since;
      }

  within : (q p y : ℕ) → Inside ws events q p y → Within (run_of ws events) q p y
  within q p y h = record { since = h.since; entered = h.entered; between = h.between }

  pub blocked_by_one : (p p' q q' x y y' : ℕ) → Blocked (state_at ws events p) x y → Inside ws events q p y →
      Blocked (state_at ws events p') x y' → Inside ws events q' p' y' → Same y y' q q'
  blocked_by_one p p' q q' x y y' b h c k =
      let e = blocked_same (run_of ws events) facts policy (blocks p x y b) (within q p y h) (blocks p' x y' c) (within q' p' y' k) in
      record { job = e.0; entry = e.1 }
