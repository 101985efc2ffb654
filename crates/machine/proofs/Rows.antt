-- Readers for what a move changes: one task's row and one bit of the ready set. What holds of the changed row and of all the others holds of
-- all rows afterwards, and the same for pairs, so that no proof about an event meets the lists and bits themselves. Assumes nothing.
use Prim.Native.Nat.{ℕ, ◌+◌, ◌-◌, ◌<◌}
use mathlib.Core.Path.{◌≡◌, refl, sym, ap, ◌∙◌}
use mathlib.Core.Logic.{◌≢◌, ◌⊎◌, inl, inr}
use mathlib.Core.Bool.{Bool, true, false}
use mathlib.Core.List.{List}
use lib.ListN.{length}
use lib.Seq.{get_or-set_same, get_or-set_other}
use Rattle.std.proofs.lemmas.Bool.{cases_eq}
use Rattle.sets.specs.Member.{width, has}
use Rattle.sets.proofs.Change.{has_with_same, has_with_other, has_without_same, has_without_other}
use Rattle.table.specs.Table.{Table, task_of}
use Rattle.table.specs.Held.{Section, held_by}
use Rattle.table.specs.Floor.{floor_of}
use Rattle.machine.specs.Order.{row_of, no_job}
use Rattle.machine.specs.Machine.{no_job_since, new_job, held_of, lowered, restored, released, locked, unlocked, cleared}
use Rattle.machine.specs.declared.Job.{Job}
use Rattle.machine.specs.declared.Kept.{Kept}

-- ---- what a move changes

-- `next` is `kept` with `job` in the row of task i, and task i's bit in the ready set as `on` says.
pub record Changed (kept next : Kept) (i : ℕ) (job : Job) (on : Bool) : Type 0 where
  pub row : row_of next i ≡ job
  pub others : (j : ℕ) → j ≢ i → row_of next j ≡ row_of kept j
  pub bit : has next.ready i ≡ on
  pub bits : (j : ℕ) → j ≢ i → has next.ready j ≡ has kept.ready j

module _ {kept next : Kept} {i : ℕ} {job : Job} {on : Bool} (c : Changed kept next i job on) where
  -- What holds of the changed row and of all others holds of all.
  pub rows_after : (P : ℕ → Job → Type 0) → P i job → ((j : ℕ) → j ≢ i → P j (row_of kept j)) → (j : ℕ) → P j (row_of next j)
  rows_after P here there j = go (cases_eq j i)
    where
      go : (j ≡ i) ⊎ (j ≢ i) → P j (row_of next j)
      go (inl e) = rw (e, c.row) here
      go (inr n) = rw (c.others j n) (there j n)

  -- The same for the ready ones.
  pub ready_after : (P : ℕ → Job → Type 0) → (on ≡ true → P i job) →
      ((j : ℕ) → j ≢ i → has kept.ready j ≡ true → P j (row_of kept j)) → (j : ℕ) → has next.ready j ≡ true → P j (row_of next j)
  ready_after P here there j h = go (cases_eq j i)
    where
      go : (j ≡ i) ⊎ (j ≢ i) → P j (row_of next j)
      go (inl e) = rw (e, c.row) (here (sym c.bit ∙ ap (has next.ready) (sym e) ∙ h))
      go (inr n) = rw (c.others j n) (there j n (sym (c.bits j n) ∙ h))

  -- The same for two ready ones.
  pub pairs_after : (P : ℕ → Job → ℕ → Job → Type 0) →
      (on ≡ true → (j : ℕ) → j ≢ i → has kept.ready j ≡ true → P i job j (row_of kept j)) →
      (on ≡ true → (j : ℕ) → j ≢ i → has kept.ready j ≡ true → P j (row_of kept j) i job) →
      ((j k : ℕ) → j ≢ i → k ≢ i → j ≢ k → has kept.ready j ≡ true → has kept.ready k ≡ true → P j (row_of kept j) k (row_of kept k)) →
      (j k : ℕ) → j ≢ k → has next.ready j ≡ true → has next.ready k ≡ true → P j (row_of next j) k (row_of next k)
  pairs_after P first second neither j k n hj hk =
      ready_after (λ x row. x ≢ k → P x row k (row_of next k))
      (λ o n. ready_after (λ y row. i ≢ y → P i job y row) (λ q z. absurd (z refl)) (λ y u h z. first o y u h) k hk n)
      (λ x u h n. ready_after (λ y row. x ≢ y → P x (row_of kept x) y row) (λ o z. second o x u h) (λ y v g z. neither x y u v z h g) k hk n)
      j hj n

-- ---- what each move changes

-- What a job at its place holds, innermost first.
abbrev pub held_in : Table → ℕ → Job → List Section
held_in table i job = held_by (task_of table i).plan job.place

module _ (table : Table) (kept : Kept) (i time : ℕ) (row : i < length kept.rows) where
  pub released_changes : i < width → Changed kept (released table kept i time) i (new_job (time + (task_of table i).D) kept.count time) true
  unfolding released
  released_changes h = record {
    row = get_or-set_same kept.rows i _ no_job row;
    others = λ j n. get_or-set_other kept.rows i j _ no_job n;
    bit = has_with_same _ _ _ h;
    bits = λ j n. has_with_other _ _ _ _ n;
  }

  pub locked_changes : (r : ℕ) → has kept.ready i ≡ true →
      Changed kept (locked table kept i r time) i (lowered (length (held_of table kept i)) (time + floor_of table r) (row_of kept i)) true
  unfolding locked
  locked_changes r h = record {
    row = get_or-set_same kept.rows i _ no_job row;
    others = λ j n. get_or-set_other kept.rows i j _ no_job n;
    bit = h;
    bits = λ j n. refl;
  }

  pub unlocked_changes : has kept.ready i ≡ true →
      Changed kept (unlocked table kept i time) i (restored (length (held_of table kept i) - 1) (row_of kept i)) true
  unfolding unlocked
  unlocked_changes h = record {
    row = get_or-set_same kept.rows i _ no_job row;
    others = λ j n. get_or-set_other kept.rows i j _ no_job n;
    bit = h;
    bits = λ j n. refl;
  }

  pub cleared_changes : i < width → Changed kept (cleared kept i time) i (no_job_since (row_of kept i).last) false
  unfolding cleared
  cleared_changes h = record {
    row = get_or-set_same kept.rows i _ no_job row;
    others = λ j n. get_or-set_other kept.rows i j _ no_job n;
    bit = has_without_same _ _ _ h;
    bits = λ j n. has_without_other _ _ _ _ n;
  }
