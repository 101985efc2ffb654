-- What keeping ready jobs apart (Separate) comes to: no step is answered HELD, two ready jobs never hold the same resource, and while a job is ready a step is
-- refused only by BACK or END. Assumes nothing.
use Prim.Native.Nat.{ℕ, ◌<◌}
use mathlib.Core.Path.{◌≡◌, refl, sym}
use mathlib.Core.Logic.{◌≢◌, ◌⊎◌, inl, inr}
use mathlib.Core.Bool.{true, not, ◌&&◌}
use mathlib.Core.List.{List}
use native.Mathlib.Omega.{arith}
use lib.Dec.{eqb}
use borrow.Author.Tests.{eqb-false, not-true}
use Rattle.std.specs.Prelude.{Some, None}
use Rattle.sets.specs.Member.{has}
use Rattle.table.specs.Limits.{most_tasks}
use Rattle.table.specs.Table.{Table, task_of}
use Rattle.table.specs.Check.{sound, check_of}
use Rattle.table.specs.Held.{holds}
use Rattle.table.specs.Floor.{uses, floor_of}
use Rattle.table.specs.Valid.{Valid}
use Rattle.table.proofs.Plans.{lock_locks, holds_locks}
use Rattle.numbers.proofs.Tests.{never, and_left, and_right}
use Rattle.table.proofs.Floors.{floor_most}
use Rattle.table.proofs.Laws.{checked_valid}
use Rattle.machine.specs.Order.{Sooner, row_of, who_runs}
use Rattle.machine.specs.Reply.{refused}
use Rattle.numbers.specs.Answers.{BACK, END, HELD}
use Rattle.machine.specs.Machine.{held_of}
use Rattle.machine.specs.declared.Kept.{Kept}
use Rattle.machine.proofs.Order.{who_ready}
use Rattle.machine.proofs.Sooner.{sooner_one_way, sooner_higher}
use Rattle.dispatch.specs.State.{table_in}
use Rattle.dispatch.specs.Dispatch.{step_of}
use Rattle.dispatch.specs.declared.State.{State}
use Rattle.runs.specs.Run.{Event, release, step, heard, state_after, begin}
use Rattle.numbers.proofs.Any.{some_below}
use Rattle.machine.specs.Away.{Given, held_by_another, locks_held, grounds_of}
use Rattle.machine.proofs.Given.{given_each}
use Rattle.machine.proofs.Moves.{nobody, held_by_whom}
use Rattle.runs.proofs.Moves.{refused_why}
use Rattle.runs.proofs.Stack.{entry_least, HeldAt, held_entry}
use Rattle.runs.proofs.Shape.{Shape}
use Rattle.runs.proofs.Reached.{ReachedWith, begin_kept, reached_moves, table_stays}
use Rattle.demand3.proofs.Separate.{someone_runs, Sep}
use Rattle.demand3.proofs.SeparateKept.{sep_kept, only_floor}

-- ---- no step is answered HELD

module _ {table : Table} (valid : Valid table) {kept : Kept} (shape : Shape table kept) (sep : Sep table kept) where
  -- A job that uses what another holds is not below its floor.
  uses_floor : (i r : ℕ) → has kept.ready i ≡ true → uses (task_of table i) r ≡ true → (task_of table i).D < floor_of table r → ⊥
  uses_floor i r h user low = omega (arith, floor_most table i r (shape.going i h).below user)

  -- The running job finds no resource that it uses held by another.
  pub never_another : (i r : ℕ) → who_runs kept ≡ Some i → uses (task_of table i) r ≡ true → held_by_another table kept i r ≡ true → ⊥
  unfolding held_by_another
  never_another i r runs user h =
      let found = some_below most_tasks _ h in
      let j : ℕ = found.at in
      let other : j ≢ i = eqb-false j i (not-true (eqb j i) (and_left _ _ found.passes)) in
      let both : (has kept.ready j && holds (held_of table kept j) r) ≡ true = and_right (not (eqb j i)) _ found.passes in
      let ready : has kept.ready j ≡ true = and_left _ _ both in
      let spot : HeldAt (row_of kept j).saved (held_of table kept j) (row_of kept j).active r =
      held_entry (row_of kept j).saved (held_of table kept j) (row_of kept j).active r (and_right (has kept.ready j) _ both)
      in
      uses_floor i r (who_ready kept i runs).1 user
      (rw spot.resource at (only_floor valid shape sep i runs j other ready spot.entered))

  -- Two ready jobs never hold the same resource: each would have entered its section before the other's deadline.
  pub not_both : (x y r : ℕ) → x ≢ y → has kept.ready x ≡ true → has kept.ready y ≡ true →
      holds (held_of table kept x) r ≡ true → holds (held_of table kept y) r ≡ true → ⊥
  not_both x y r n hx hy holdx holdy =
      let atx : HeldAt (row_of kept x).saved (held_of table kept x) (row_of kept x).active r = held_entry _ (held_of table kept x) _ r holdx in
      let aty : HeldAt (row_of kept y).saved (held_of table kept y) (row_of kept y).active r = held_entry _ (held_of table kept y) _ r holdy in
      sooner_one_way
      (sooner_higher (entry_least (shape.going x hx).stack atx.entered) (before x y n hx hy holdx aty))
      (sooner_higher (entry_least (shape.going y hy).stack aty.entered) (before y x (λ e. n (sym e)) hy hx holdy atx))
    where
      before : (x y : ℕ) → x ≢ y → has kept.ready x ≡ true → has kept.ready y ≡ true → holds (held_of table kept x) r ≡ true →
          (spot : HeldAt (row_of kept y).saved (held_of table kept y) (row_of kept y).active r) →
          Sooner spot.entry (row_of kept y).number (row_of kept x).active (row_of kept x).number
      before x y n hx hy holdx spot = go ((sep.pair x y n hx hy).entry spot.entered)
        where
          go : Sooner spot.entry (row_of kept y).number (row_of kept x).active (row_of kept x).number
              ⊎ ((task_of table x).D < floor_of table spot.section.resource) →
              Sooner spot.entry (row_of kept y).number (row_of kept x).active (row_of kept x).number
          go (inl b) = b
          go (inr low) =
              absurd (uses_floor x r hx (holds_locks (task_of table x).plan (row_of kept x).place r holdx) (rw spot.resource at low))

  -- ---- what is left of the refusals

  never_locks : locks_held table kept ≡ true → ⊥
  never_locks h =
      let lock = held_by_whom table kept h in
      never_another lock.task lock.resource lock.runs (lock_locks (task_of table lock.task).plan (row_of kept lock.task).place lock.next) lock.held

  pub not_held : (e : Event) {number : ℕ} → Given number (grounds_of table kept e) → number ≢ HELD
  not_held (release i time) given =
      given_each (λ n. n ≢ HELD) given
      ((λ h. omega arith), ((λ h. omega arith), ((λ h. omega arith), ((λ h. omega arith), ((λ h. omega arith), tt)))))
  not_held (step time) given =
      given_each (λ n. n ≢ HELD) given
      ((λ h. omega arith), ((λ h. omega arith), ((λ h. omega arith), ((λ h. absurd (never_locks h)), tt))))

  pub step_refused : (time : ℕ) {number : ℕ} → kept.ready ≢ 0 → Given number (grounds_of table kept (step time)) → (number ≡ BACK) ⊎ (number ≡ END)
  step_refused time some given =
      given_each (λ n. (n ≡ BACK) ⊎ (n ≡ END)) given
      ((λ h. inl refl), ((λ h. inr refl), ((λ h. absurd (someone (nobody kept h) (someone_runs valid shape some))), ((λ h. absurd (never_locks h)), tt))))
    where
      someone : who_runs kept ≡ None → (i : ℕ) × (who_runs kept ≡ Some i) → ⊥
      someone none p = let runs : who_runs kept ≡ Some p.0 = p.1 in never (cc)

-- ---- demand 3's first part, of every run

module _ (ws : List ℕ) (table : Table) (ok : check_of ws ≡ sound table) (events : List Event) where
  -- The state after these events.
  abbrev pub reached_state : State
  reached_state = state_after (begin ws) events

  pub run_sep : ReachedWith ws table (Sep table) reached_state
  run_sep = begin_kept ws table ok (Sep table) (sep_kept table (checked_valid ws table ok)) events

  why_refused : (e : Event) (number : ℕ) → (heard reached_state e).said ≡ refused number → Given number (grounds_of table reached_state.kept e)
  why_refused e number h =
      rw (table_stays ws table ok run_sep.reached) at
      (refused_why reached_state e number (reached_moves ws table ok run_sep.reached e) h)

  -- "HELD can be met in a made-up state; demand 3 says it is never met from a fresh start."
  pub never_held_lem : (e : Event) → (heard reached_state e).said ≡ refused HELD → ⊥
  never_held_lem e h = not_held (checked_valid ws table ok) run_sep.reached.shape run_sep.inv e (why_refused e HELD h) refl

  -- While a job is ready, a step is refused only by BACK or END.
  pub never_stuck_lem : (time number : ℕ) → reached_state.kept.ready ≢ 0 → (step_of reached_state time).said ≡ refused number →
      (number ≡ BACK) ⊎ (number ≡ END)
  never_stuck_lem time number some h =
      step_refused (checked_valid ws table ok) run_sep.reached.shape run_sep.inv time some (why_refused (step time) number h)

  -- Two ready jobs never hold the same resource.
  pub mutual_exclusion_lem : (x y r : ℕ) → x ≢ y → has reached_state.kept.ready x ≡ true → has reached_state.kept.ready y ≡ true →
      holds (held_of (table_in reached_state) reached_state.kept x) r ≡ true →
      holds (held_of (table_in reached_state) reached_state.kept y) r ≡ true → ⊥
  mutual_exclusion_lem = rw (table_stays ws table ok run_sep.reached)
      (not_both (checked_valid ws table ok) run_sep.reached.shape run_sep.inv)

  -- Where a job is ready, a ready job runs.
  pub no_deadlock_lem : reached_state.kept.ready ≢ 0 → (i : ℕ) × (who_runs reached_state.kept ≡ Some i) × (has reached_state.kept.ready i ≡ true)
  no_deadlock_lem some =
      let (i, runs) = someone_runs (checked_valid ws table ok) run_sep.reached.shape some in
      (i, runs, (who_ready reached_state.kept i runs).1)
