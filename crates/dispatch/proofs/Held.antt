-- What a job holds, in a table that passed the check: the set of it has a one for each section, and another job's is asked through it.
-- Assumes nothing.
use Prim.Native.Nat.{ℕ, ◌<◌, ◌≤◌, ◌^◌}
use native.Mathlib.Nat.{le_refl, le_trans, lt_of_le_of_lt, lt_of_lt_of_le}
use lib.Pow.{pow_mono}
use native.Mathlib.Omega.{arith}
use mathlib.Core.Path.{◌≡◌, refl, sym, ap, subst, ◌∙◌}
use mathlib.Core.List.{List, []}
use mathlib.Core.Bool.{Bool, true, false, not, ◌&&◌}
use lib.Dec.{ltb, eqb}
use lib.ListN.{length, get_or-eq_default}
use borrow.Author.Tests.{ltb-true, ltb-false}
use Rattle.sets.specs.Member.{width, has, without_of, size_of}
use Rattle.sets.proofs.Change.{has_without, without_le}
use Rattle.table.specs.Limits.{most_tasks, most_steps, most_held}
use Rattle.table.specs.Table.{Task, Table, no_task, tasks_of, task_of}
use Rattle.table.specs.Held.{Section, held_set, holds}
use Rattle.table.specs.Map.{next_of}
use Rattle.table.specs.declared.Next.TheVariants.{Lock, Unlock}
use Rattle.table.specs.Valid.{Nested, ends, Valid}
use Rattle.table.proofs.Plans.{held_most, held_unlock, lock_room, has_held, size_held}
use Rattle.machine.specs.Order.{row_of}
use Rattle.machine.specs.Machine.{held_of}
use Rattle.machine.specs.Away.{held_by_another}
use Rattle.machine.specs.declared.Kept.{Kept}
use Rattle.dispatch.specs.declared.whole.Whole.{Whole}
use Rattle.readers.specs.Read.{table_in}
use Rattle.torn.specs.Torn.{torn_by}
use Rattle.torn.proofs.Grounds.{untorn_parts, examined_table}
use Rattle.table.specs.Check.{check_of}
use Rattle.table.proofs.Laws.{checked_valid}
use lib.Seq.{take_all}
use Rattle.numbers.proofs.Any.{any_ext}
use Rattle.sets.proofs.Search.{any_member}
use Rattle.torn.proofs.Untorn.{untorn, ready_task, ready_set, place_in}

-- ---- nothing is torn

-- A table that passed the check, and with it nothing torn.
pub record NotTorn (table : Table) (kept : Kept) : Type 0 where
  pub valid : Valid table
  pub untorn : torn_by table kept ≡ false

-- What a lock or an unlock of task i's job counts on: the size of the set of what it holds is how many sections it holds, these are at most
-- four, and its place is one of its plan's.
pub record SectionsHeld (table : Table) (kept : Kept) (i : ℕ) : Type 0 where
  pub size : size_of (held_set (held_of table kept i)) ≡ length (held_of table kept i)
  pub most : length (held_of table kept i) ≤ most_held
  pub place : (row_of kept i).place ≤ most_steps

-- Every task's plan nests; a task that isn't there has no steps.
pub plan_nests : (table : Table) (i : ℕ) → Valid table → Nested table.resources (task_of table i).C [] (task_of table i).plan
plan_nests table i valid = go (ltb i (tasks_of table)) refl
  where
    go : (b : Bool) → ltb i (tasks_of table) ≡ b → Nested table.resources (task_of table i).C [] (task_of table i).plan
    go true e = (valid.each i (ltb-true i (tasks_of table) e)).nested
    go false e =
        subst (λ (task : Task). Nested table.resources task.C [] task.plan)
        (sym (get_or-eq_default table.tasks no_task (ltb-false i (tasks_of table) e))) ends

fits : (table : Table) → Valid table → table.resources ≤ width
fits table valid = let l = valid.resources_most in omega arith

pub held_size : (table : Table) (kept : Kept) (i : ℕ) → Valid table → size_of (held_set (held_of table kept i)) ≡ length (held_of table kept i)
held_size table kept i valid = size_held (fits table valid) (plan_nests table i valid) (row_of kept i).place

pub held_has : (table : Table) (kept : Kept) (i r : ℕ) → Valid table → has (held_set (held_of table kept i)) r ≡ holds (held_of table kept i) r
held_has table kept i r valid = has_held (fits table valid) (plan_nests table i valid) (row_of kept i).place r

-- What a ready job's lock or unlock counts on.
pub sections_held : (table : Table) (kept : Kept) (i : ℕ) → NotTorn table kept → i < most_tasks → has kept.ready i ≡ true → SectionsHeld table kept i
sections_held table kept i whole row h = record {
  size = held_size table kept i whole.valid;
  most = held_most (plan_nests table i whole.valid) (row_of kept i).place;
  place = le_trans (place_in table kept i (untorn table kept whole.untorn).place row h)
      (whole.valid.each i (ready_task table kept i (untorn table kept whole.untorn).ready (omega arith) h)).steps;
}

-- ---- HELD

and_turned : (a b d : Bool) → ((a && b) && d) ≡ (a && (b && d))
and_turned true b d = refl
and_turned false b d = refl

-- "another ready job" is a member of the ready set without this one.
pub another : (table : Table) (kept : Kept) (i r : ℕ) → i < width →
    any_member most_tasks (without_of width kept.ready i) (λ j. holds (held_of table kept j) r) ≡ held_by_another table kept i r
unfolding held_by_another
another table kept i r l =
    any_ext most_tasks (λ j. has (without_of width kept.ready i) j && holds (held_of table kept j) r)
    (λ j. not (eqb j i) && (has kept.ready j && holds (held_of table kept j) r))
    (λ j _. ap (λ (b : Bool). b && holds (held_of table kept j) r) (has_without width kept.ready i j l)
    ∙ and_turned (not (eqb j i)) (has kept.ready j) (holds (held_of table kept j) r))

-- It is asked through the set of what the other holds.
pub another_asked : (table : Table) (kept : Kept) (i r : ℕ) → Valid table → i < width →
    any_member most_tasks (without_of width kept.ready i) (λ j. has (held_set (held_of table kept j)) r) ≡ held_by_another table kept i r
another_asked table kept i r valid l =
    any_ext most_tasks _ _ (λ j _. ap (λ (b : Bool). has (without_of width kept.ready i) j && b) (held_has table kept j r valid))
    ∙ another table kept i r l

pub others_fit : (table : Table) (kept : Kept) (i : ℕ) → NotTorn table kept → kept.ready < 2 ^ width → without_of width kept.ready i < 2 ^ most_tasks
others_fit table kept i whole fits =
    lt_of_le_of_lt (without_le width kept.ready i)
    (lt_of_lt_of_le (ready_set table kept fits (untorn table kept whole.untorn).ready) (pow_mono whole.valid.tasks_most))

-- ---- the running job's step

pub lock_slot : (table : Table) (kept : Kept) (i : ℕ) {r l : ℕ} → Valid table → next_of (task_of table i).plan (row_of kept i).place ≡ Lock r l →
    length (held_of table kept i) < most_held
lock_slot table kept i valid e = lock_room (plan_nests table i valid) (row_of kept i).place e

pub unlock_slot : (table : Table) (kept : Kept) (i : ℕ) → Valid table → next_of (task_of table i).plan (row_of kept i).place ≡ Unlock →
    0 < length (held_of table kept i)
unlock_slot table kept i valid e =
    let (s, q) = held_unlock (plan_nests table i valid) (row_of kept i).place e in
    subst (λ (held : List Section). 0 < length held) (sym q) (omega arith)

-- ---- of a `Whole`

pub not_torn : (w : Whole) → NotTorn (table_in w.table) w.kept.now
not_torn w =
    let words = w.table.words.now in
    let (used, rest) = untorn_parts words (length words) w.kept.now w.untorn in
    let (t, e, q) = rest in
    let all = take_all (length words) words (le_refl (length words)) in
    let same : table_in w.table ≡ t = examined_table words t w.table.map (ap check_of (sym all) ∙ e) w.mapped in
    subst (λ (x : Table). NotTorn x w.kept.now) (sym same) (record { valid = checked_valid _ t e; untorn = q })
