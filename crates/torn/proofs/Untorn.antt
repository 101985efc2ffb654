-- What a state that isn't torn gives: each ground of TORN, turned round. Assumes nothing.
use Prim.Native.Nat.{ℕ, ◌<◌, ◌≤◌, ◌^◌}
use mathlib.Core.Path.{◌≡◌}
use mathlib.Core.Bool.{true, false, ◌&&◌}
use lib.Dec.{ltb, leb}
use lib.ListN.{length, get_or}
use borrow.Author.Tests.{ltb-false, leb-false}
use Rattle.sets.specs.Member.{width, has}
use Rattle.sets.proofs.Digit.{has_below, set_below}
use Rattle.numbers.specs.Any.{any_below}
use Rattle.table.specs.Limits.{most_tasks, most_held, most_stored, most_releases}
use Rattle.table.specs.Table.{Table, tasks_of, task_of}
use Rattle.machine.specs.Order.{row_of}
use Rattle.machine.specs.declared.Kept.{Kept}
use Rattle.torn.specs.Torn.{torn_clock, torn_ready, torn_place, torn_times, torn_last, torn_count, torn_numbers, row_too_late, too_late, torn_by}
use Rattle.numbers.proofs.Any.{any_not}
use Rattle.numbers.proofs.Tests.{or_false_left, or_false_right, and_second}

-- ---- ground by ground

pub record Untorn (table : Table) (kept : Kept) : Type 0 where
  pub clock : torn_clock kept ≡ false
  pub ready : torn_ready table kept ≡ false
  pub place : torn_place table kept ≡ false
  pub times : torn_times kept ≡ false
  pub last : torn_last table kept ≡ false
  pub count : torn_count kept ≡ false
  pub numbers : torn_numbers kept ≡ false

pub untorn : (table : Table) (kept : Kept) → torn_by table kept ≡ false → Untorn table kept
unfolding torn_by
untorn table kept e =
    let e₁ = or_false_right (torn_clock kept) _ e in
    let e₂ = or_false_right (torn_ready table kept) _ e₁ in
    let e₃ = or_false_right (torn_place table kept) _ e₂ in
    let e₄ = or_false_right (torn_times kept) _ e₃ in
    let e₅ = or_false_right (torn_last table kept) _ e₄ in
    record {
      clock = or_false_left (torn_clock kept) _ e;
      ready = or_false_left (torn_ready table kept) _ e₁;
      place = or_false_left (torn_place table kept) _ e₂;
      times = or_false_left (torn_times kept) _ e₃;
      last = or_false_left (torn_last table kept) _ e₄;
      count = or_false_left (torn_count kept) _ e₅;
      numbers = or_false_right (torn_count kept) _ e₅;
    }

-- ---- what each says

pub count_most : (kept : Kept) → torn_count kept ≡ false → kept.count ≤ most_releases
unfolding torn_count
count_most kept e = ltb-false most_releases kept.count e

row_untorn : (kept : Kept) (i : ℕ) → torn_times kept ≡ false → i < most_tasks → row_too_late (row_of kept i) ≡ false
unfolding torn_times
row_untorn kept i e l = any_not most_tasks (λ k. row_too_late (row_of kept k)) e i l

pub base_most : (kept : Kept) (i : ℕ) → torn_times kept ≡ false → i < most_tasks → (row_of kept i).base ≤ most_stored
base_most kept i e l = ltb-false most_stored (row_of kept i).base (or_false_left (too_late (row_of kept i).base) _ (row_untorn kept i e l))

pub last_most : (kept : Kept) (i : ℕ) → torn_times kept ≡ false → i < most_tasks → (row_of kept i).last ≤ most_stored
last_most kept i e l =
    ltb-false most_stored (row_of kept i).last
    (or_false_right (any_below most_held (λ k. too_late (get_or (row_of kept i).saved k 0))) (too_late (row_of kept i).last)
    (or_false_right (too_late (row_of kept i).active) _ (or_false_right (too_late (row_of kept i).base) _ (row_untorn kept i e l))))

pub ready_task : (table : Table) (kept : Kept) (i : ℕ) → torn_ready table kept ≡ false → i < width → has kept.ready i ≡ true → i < tasks_of table
unfolding torn_ready
ready_task table kept i e l h =
    leb-false (tasks_of table) i
    (and_second (has kept.ready i) (leb (tasks_of table) i) (any_not width (λ k. has kept.ready k && leb (tasks_of table) k) e i l) h)

pub place_in : (table : Table) (kept : Kept) (i : ℕ) → torn_place table kept ≡ false → i < most_tasks → has kept.ready i ≡ true →
    (row_of kept i).place ≤ length (task_of table i).plan
unfolding torn_place
place_in table kept i e l h =
    ltb-false (length (task_of table i).plan) (row_of kept i).place
    (and_second (has kept.ready i) _
    (any_not most_tasks (λ k. has kept.ready k && ltb (length (task_of table k).plan) (row_of kept k).place) e i l) h)

-- ---- the ready set

-- Where no ready job's task is at n or above, the ready set is a number of n digits.
pub ready_fits : (ready tasks : ℕ) → ready < 2 ^ width → any_below width (λ i. has ready i && leb tasks i) ≡ false → ready < 2 ^ tasks
ready_fits ready tasks fits none =
    set_below tasks ready
    (λ i h. leb-false tasks i
    (and_second (has ready i) (leb tasks i) (any_not width (λ k. has ready k && leb tasks k) none i (has_below width ready i fits h)) h))

pub ready_set : (table : Table) (kept : Kept) → kept.ready < 2 ^ width → torn_ready table kept ≡ false → kept.ready < 2 ^ tasks_of table
unfolding torn_ready
ready_set table kept fits none = ready_fits kept.ready (tasks_of table) fits none
