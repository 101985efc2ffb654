-- Every move keeps `Sep` (Separate): a release since an entry value is at most the clock plus the floor, a lock since the running job is least, an unlock since
-- the deadline only grows. Assumes nothing.
use Prim.Native.Nat.{ℕ, ◌+◌, ◌≤◌, ◌<◌, min}
use mathlib.Core.Path.{◌≡◌, sym, subst, ◌∙◌}
use mathlib.Core.Logic.{◌≢◌, ◌⊎◌, inl, inr}
use mathlib.Core.Bool.{true, true≢false}
use mathlib.Core.List.{List, []}
use native.Mathlib.Omega.{arith}
use Rattle.std.specs.Prelude.{Some}
use Rattle.sets.specs.Member.{has}
use Rattle.sets.proofs.Digit.{has_zero}
use Rattle.table.specs.Table.{Table, task_of}
use Rattle.table.specs.Held.{Section, held_by}
use Rattle.table.specs.Floor.{floor_of}
use Rattle.table.specs.Valid.{Valid}
use Rattle.table.specs.declared.Next.TheVariants.{Lock, Unlock}
use Rattle.table.proofs.Plans.{held_start}
use Rattle.machine.specs.Order.{Sooner, row_of, who_runs}
use Rattle.machine.specs.Reply.{EventReply}
use Rattle.machine.specs.Machine.{next_in, held_of, released, locked, unlocked, cleared, fresh}
use Rattle.machine.specs.declared.Kept.{Kept}
use Rattle.machine.proofs.Order.{who_ready}
use Rattle.machine.proofs.Sooner.{sooner_lower, sooner_higher}
use Rattle.runs.specs.Run.{Event}
use Rattle.machine.proofs.Moves.{Releasable, Moving, releases, locks, unlocks, finishes}
use Rattle.machine.proofs.Rows.{pairs_after}
use Rattle.runs.proofs.Stack.{Entry, slot, entry_most, entry_lock, entry_unlock, unlock_grows}
use Rattle.runs.proofs.Shape.{Shape, released_change, locked_change, lock_slot, lock_held, unlocked_change, unlock_held, cleared_change}
use Rattle.runs.proofs.Reached.{Invariant}
use Rattle.demand3.proofs.Separate.{Separate, Sep, floor_or_first, runs_first, runs_before}

-- ---- a release

-- Nothing is held at a plan's start.
no_entry : {saved : List ℕ} {held : List Section} {a : ℕ} {s : Section} {v : ℕ} → held ≡ [] → Entry saved held a s v → ⊥
no_entry {saved} {held} {a} {s} {v} e entered = go (subst (λ (h : List Section). Entry saved h a s v) e entered)
  where
    go : Entry saved [] a s v → ⊥
    go entry = elim entry [ ]

module _ {table : Table} (valid : Valid table) {kept : Kept} (shape : Shape table kept) (sep : Sep table kept) where
  released_sep : {i time : ℕ} → Releasable table kept i time → Sep table (released table kept i time)
  released_sep {i} {time} free = record {
    pair = pairs_after (released_change valid shape free) (Separate table)
        (λ o j n h. record {
          entry = λ {s} {v} entered. floor_or_first v _ kept.clock time _ _ _ (entry_most (shape.going j h).stack entered) free.timely.back
              (shape.going j h).number;
        })
        (λ o j n h. record { entry = λ entered. absurd (no_entry (held_start (task_of table i).plan) entered) })
        (λ j k u v n h g. sep.pair j k n h g);
  }

  module _ (i : ℕ) (runs : who_runs kept ≡ Some i) where
    there : has kept.ready i ≡ true
    there = (who_ready kept i runs).1

    -- Where the other's section is entered before the running job's deadline, the other would run.
    pub only_floor : (j : ℕ) → j ≢ i → has kept.ready j ≡ true → {s : Section} {v : ℕ} →
        Entry (row_of kept j).saved (held_of table kept j) (row_of kept j).active s v → (task_of table i).D < floor_of table s.resource
    only_floor j n h {s} {v} entered = go ((sep.pair i j (λ e. n (sym e)) there h).entry entered)
      where
        go : Sooner v (row_of kept j).number (row_of kept i).active (row_of kept i).number ⊎ ((task_of table i).D < floor_of table s.resource) →
            (task_of table i).D < floor_of table s.resource
        go (inl before) = absurd (runs_before valid shape i j runs n h entered before)
        go (inr low) = low

    locked_sep : (time r l : ℕ) → next_in table kept i ≡ Lock r l → Sep table (locked table kept i r time)
    locked_sep time r l next = record {
      pair = pairs_after (locked_change valid shape i time there r) (Separate table)
          (λ o j n h. record { entry = λ entered. inr (only_floor j n h entered) })
          (λ o j n h. record {
            entry = λ entered. go j n h
                (entry_lock (row_of kept i).saved (held_of table kept i) (row_of kept i).active (lock_slot valid shape i time there r l next)
                (rw (lock_held valid shape i time there r l next) at entered));
          })
          (λ j k u v n h g. sep.pair j k n h g);
    }
      where
        new : Section
        new = record { resource = r; length = l }

        -- The new section's entry value is at most the running job's deadline, which is least.
        go : (j : ℕ) → j ≢ i → has kept.ready j ≡ true → {s : Section} {v : ℕ} →
            ((s ≡ new) × (v ≡ min (row_of kept i).active (time + floor_of table r))) ⊎
            Entry (row_of kept i).saved (held_of table kept i) (row_of kept i).active s v →
            Sooner v (row_of kept i).number (row_of kept j).active (row_of kept j).number ⊎ ((task_of table j).D < floor_of table s.resource)
        go j n h (inl p) = inl (sooner_lower (omega (arith, p.1)) (runs_first valid shape i j runs n h))
        go j n h (inr old) = (sep.pair j i n h there).entry old

    unlocked_sep : (time : ℕ) → next_in table kept i ≡ Unlock → Sep table (unlocked table kept i time)
    unlocked_sep time next = record {
      pair = pairs_after (unlocked_change valid shape i time there next) (Separate table)
          (λ o j n h. record { entry = λ entered. higher ((sep.pair i j (λ e. n (sym e)) there h).entry entered) })
          (λ o j n h. record {
            entry = λ {s} {v} entered. (sep.pair j i n h there).entry {s = s} {v = v}
                (rw (unlock_held valid shape i time there next).1 (entry_unlock (row_of kept i).saved entered));
          })
          (λ j k u v n h g. sep.pair j k n h g);
    }
      where
        left : List Section
        left = held_by (task_of table i).plan ((row_of kept i).place + 1)

        -- The active deadline only grows.
        grows : (row_of kept i).active ≤ slot (row_of kept i).saved left
        grows = unlock_grows (row_of kept i).saved (rw (unlock_held valid shape i time there next).1 at (shape.going i there).stack)

        higher : {v k : ℕ} {P : Type 0} → Sooner v k (row_of kept i).active (row_of kept i).number ⊎ P →
            Sooner v k (slot (row_of kept i).saved left) (row_of kept i).number ⊎ P
        higher (inl before) = inl (sooner_higher grows before)
        higher (inr low) = inr low

    cleared_sep : (time : ℕ) → Sep table (cleared kept i time)
    cleared_sep time = record {
      pair = pairs_after (cleared_change valid shape i time there) (Separate table) (λ o. absurd (true≢false (sym o)))
          (λ o. absurd (true≢false (sym o))) (λ j k u v n h g. sep.pair j k n h g);
    }

-- ---- every move

pub sep_kept : (table : Table) → Valid table → Invariant table (Sep table)
sep_kept table valid = record { begins = first; keeps = keeps }
  where
    first : Sep table fresh
    first = record { pair = λ x y n h g. absurd (true≢false (sym h ∙ has_zero x)) }

    keeps : {kept next : Kept} {e : Event} {said : EventReply} → Moving who_runs table kept e next said → Shape table kept → Sep table kept → Sep table next
    keeps (releases i time free) shape sep = released_sep valid shape sep free
    keeps (locks i r l time steps next alone) shape sep = locked_sep valid shape sep i steps.runs time r l next
    keeps (unlocks i time steps next) shape sep = unlocked_sep valid shape sep i steps.runs time next
    keeps (finishes i time steps next) shape sep = cleared_sep valid shape sep i steps.runs time
