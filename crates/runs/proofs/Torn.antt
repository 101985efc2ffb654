-- A state that a run hands out is never called torn: what `Shape` says rules out each of document 01's grounds, one by one. Assumes nothing.
use Prim.Native.Nat.{ℕ, ◌≤◌}
use mathlib.Core.Path.{◌≡◌, refl, ap}
use mathlib.Core.Bool.{Bool, true, false}
use native.Mathlib.Nat.{le_trans}
use native.Mathlib.Omega.{arith}
use lib.Dec.{leb}
use lib.ListN.{length, get_or}
use borrow.Author.Tests.{le-ltb, lt-leb, ne_eqb}
use Rattle.sets.specs.Member.{width, has}
use Rattle.table.specs.Limits.{room, most_tasks, most_held, end_of_time, most_stored, most_releases}
use Rattle.table.specs.Table.{Table, tasks_of, task_of}
use Rattle.table.specs.Check.{sound, check_of}
use Rattle.table.specs.Valid.{Valid}
use Rattle.machine.specs.Order.{row_of}
use Rattle.machine.specs.declared.Job.{Job}
use Rattle.machine.specs.declared.Kept.{Kept}
use Rattle.torn.specs.Torn.{table_from}
use Rattle.dispatch.specs.State.{words_in, table_in}
use Rattle.torn.specs.Torn.{not_sound, torn_table, torn_clock, torn_ready, torn_place, too_late, row_too_late, torn_times, torn_last, torn_count, same_number, torn_numbers, torn_by, torn_of}
use Rattle.dispatch.specs.Torn.{torn}
use Rattle.dispatch.specs.declared.State.{State}
use Rattle.numbers.proofs.Any.{any_false}
use Rattle.std.proofs.lemmas.Bool.{or_from}
use Rattle.numbers.proofs.Tests.{and_fails}
use Rattle.runs.proofs.Shape.{Stored, Shape, weight, potential}
use Rattle.runs.proofs.Sum.{sum_most}

-- ---- the grounds

module _ {table : Table} (valid : Valid table) {kept : Kept} (shape : Shape table kept) where
  not_late : (time : ℕ) → time ≤ most_stored → too_late time ≡ false
  not_late time h = le-ltb most_stored time h

  whole_clock : torn_clock kept ≡ false
  unfolding torn_clock
  whole_clock = lt-leb end_of_time kept.clock shape.clock

  whole_ready : torn_ready table kept ≡ false
  unfolding torn_ready
  whole_ready = any_false width _ (λ i l. and_fails (has kept.ready i) (leb (tasks_of table) i) (λ h. lt-leb (tasks_of table) i (shape.going i h).below))

  whole_place : torn_place table kept ≡ false
  unfolding torn_place
  whole_place =
      any_false most_tasks _
      (λ i l. and_fails (has kept.ready i) _ (λ h. le-ltb (length (task_of table i).plan) (row_of kept i).place (shape.going i h).place))

  whole_row : (job : Job) → Stored job → row_too_late job ≡ false
  whole_row job h =
      or_from _ _ (not_late job.base h.base)
      (or_from _ _ (not_late job.active h.active)
      (or_from _ _ (any_false most_held _ (λ k l. not_late (get_or job.saved k 0) (h.saved k))) (not_late job.last h.last)))

  whole_times : torn_times kept ≡ false
  unfolding torn_times
  whole_times = any_false most_tasks _ (λ i l. whole_row (row_of kept i) (shape.stored i))

  whole_last : torn_last table kept ≡ false
  unfolding torn_last
  whole_last =
      any_false (tasks_of table) _
      (λ i l. and_fails (has kept.had i) _ (λ h. le-ltb kept.clock (row_of kept i).last (shape.last i h)))

  -- Sixteen tasks, and each last release before the end of time.
  weighed : (i : ℕ) → weight (has kept.had i) (row_of kept i).last ≤ end_of_time
  weighed i = go (has kept.had i) refl
    where
      go : (b : Bool) → has kept.had i ≡ b → weight b (row_of kept i).last ≤ end_of_time
      go true e = omega (arith, shape.last i e, shape.clock)
      go false e = omega arith

  count_most : kept.count ≤ most_releases
  unfolding potential
  count_most = le_trans shape.count (le_trans (sum_most most_tasks _ end_of_time (λ i l. weighed i)) (omega arith))

  whole_count : torn_count kept ≡ false
  unfolding torn_count
  whole_count = le-ltb most_releases kept.count count_most

  whole_numbers : torn_numbers kept ≡ false
  unfolding torn_numbers
  whole_numbers =
      any_false most_tasks _
      (λ i l. and_fails (has kept.ready i) _ (λ h. or_from (same_number kept i) _ (others i h) (lt-leb kept.count (row_of kept i).number (shape.going i h).number)))
    where
      others : (i : ℕ) → has kept.ready i ≡ true → same_number kept i ≡ false
      others i h = any_false i _ (λ j l. and_fails (has kept.ready j) _ (λ g. ne_eqb _ _ (shape.numbers j i (omega arith) g h)))

-- ---- the whole

pub table_in_lem : {table : Table} (s : State) → check_of (words_in s) ≡ sound table → table_in s ≡ table
unfolding table_in
table_in_lem s ok = ap table_from ok

whole_table : {table : Table} (s : State) → s.length ≤ room → check_of (words_in s) ≡ sound table → torn_table s.words s.length ≡ false
unfolding torn_table
whole_table s fits ok = or_from _ _ (le-ltb room s.length fits) (ap not_sound ok)

pub shape_untorn : {table : Table} → Valid table → (s : State) → s.length ≤ room → check_of (words_in s) ≡ sound table → Shape table s.kept →
    torn s ≡ false
unfolding torn torn_of torn_by
shape_untorn valid s fits ok shape =
    or_from _ _ (whole_table s fits ok)
    (rw (ap table_from ok)
    (or_from _ _ (whole_clock valid shape)
    (or_from _ _ (whole_ready valid shape)
    (or_from _ _ (whole_place valid shape)
    (or_from _ _ (whole_times valid shape)
    (or_from _ _ (whole_last valid shape)
    (or_from _ _ (whole_count valid shape) (whole_numbers valid shape))))))))
