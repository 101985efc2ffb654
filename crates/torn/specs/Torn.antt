-- "A state is torn exactly when .." (document 01, "When an event is turned away"), ground by ground, in its order: of a state's words, of how many of them are
-- in use and of what is kept. Assumes nothing.
use Rattle.std.specs.Prelude.{ℕ, Bool, true, false, ◌&&◌, ◌||◌, List, ltb, leb, eqb, length, get_or, take}
use Rattle.sets.specs.Member.{width, has}
use Rattle.numbers.specs.Any.{any_below}
use Rattle.table.specs.Limits.{room, most_tasks, most_held, end_of_time, most_stored, most_releases}
use Rattle.table.specs.Table.{Table, no_table, tasks_of, task_of}
use Rattle.table.specs.Check.{Checked, sound, refused, check_of}
use Rattle.machine.specs.Order.{row_of}
use Rattle.machine.specs.declared.Job.{Job}
use Rattle.machine.specs.declared.Kept.{Kept}

-- The table that a checked list is; a refused one is none.
abbrev pub table_from : Checked → Table
table_from (sound t) = t
table_from (refused number place) = no_table

abbrev pub not_sound : Checked → Bool
not_sound (sound t) = false
not_sound (refused number place) = true

-- "its table would not pass the check": a length above the room is no list's that passes it.
unfoldable pub torn_table : List ℕ → ℕ → Bool
torn_table words used = ltb room used || not_sound (check_of (take used words))

-- "its clock is 2^40 or more"
unfoldable pub torn_clock : Kept → Bool
torn_clock kept = leb end_of_time kept.clock

-- "a job counts as ready whose task is not below n"
unfoldable pub torn_ready : Table → Kept → Bool
torn_ready table kept = any_below width (λ i. has kept.ready i && leb (tasks_of table) i)

-- "a ready job's place is past its plan's end"
unfoldable pub torn_place : Table → Kept → Bool
torn_place table kept =
    any_below most_tasks (λ i. has kept.ready i && ltb (length (task_of table i).plan) (row_of kept i).place)

-- "a stored time is above 2^40 + 1,000,000": a base, an active, a saved deadline or a last release.
abbrev pub too_late : ℕ → Bool
too_late time = ltb most_stored time

abbrev pub row_too_late : Job → Bool
row_too_late job =
    too_late job.base || (too_late job.active || (any_below most_held (λ k. too_late (get_or job.saved k 0)) || too_late job.last))

-- "Stored times are judged in every row, used or not"
unfoldable pub torn_times : Kept → Bool
torn_times kept = any_below most_tasks (λ i. row_too_late (row_of kept i))

-- "a task's last release is after the clock": "judged for tasks below n that have had a release"
unfoldable pub torn_last : Table → Kept → Bool
torn_last table kept = any_below (tasks_of table) (λ i. has kept.had i && ltb kept.clock (row_of kept i).last)

-- "its count of accepted releases is above 2^44"
unfoldable pub torn_count : Kept → Bool
torn_count kept = ltb most_releases kept.count

-- "two ready jobs have the same release number, or one not below that count"
abbrev pub same_number : Kept → ℕ → Bool
same_number kept i = any_below i (λ j. has kept.ready j && eqb (row_of kept j).number (row_of kept i).number)

unfoldable pub torn_numbers : Kept → Bool
torn_numbers kept =
    any_below most_tasks (λ i. has kept.ready i && (same_number kept i || leb kept.count (row_of kept i).number))

-- The grounds behind the table's own.
unfoldable pub torn_by : Table → Kept → Bool
torn_by table kept =
    torn_clock kept ||
    (torn_ready table kept ||
    (torn_place table kept ||
    (torn_times kept ||
    (torn_last table kept ||
    (torn_count kept ||
    torn_numbers kept)))))

-- TORN: one of these grounds.
unfoldable pub torn_of : List ℕ → ℕ → Kept → Bool
torn_of words used kept = torn_table words used || torn_by (table_from (check_of (take used words))) kept
