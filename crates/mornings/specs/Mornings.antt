-- M1 to M12 of document 01, one below the other, to be held beside "Two mornings at the chair" line by line. That they hold is one theorem,
-- `mornings_hold`. Assumes nothing.
use Rattle.std.specs.Prelude.{ℕ, ◌<◌, ◌≡◌, List, [], ◌∷◌, ◌++◌}
use Rattle.table.specs.Table.{Table, tasks_of, task_of}
use Rattle.table.specs.Check.{check_of, sound}
use Rattle.numbers.specs.Answers.{SHORT, COUNT, FITS, LATE, HEAVY, LONG}
use Rattle.table.specs.Said as table
use Rattle.machine.specs.Reply.{went_on, finished, runs, idle}
use Rattle.verdict.specs.Verdict.{verdict_of, says}
use Rattle.runs.specs.Run.{release, step}
use Rattle.mornings.specs.Morning.{Line, ◌answers◌, minus, Morning, run, checked, judged, every}

-- Table A with D of task 0 and task 2's length: `3 1 / 20 10 3 0 / 30 20 9 2 1 0 1 2 0 0 / 40 30 10 2 1 0 4 2 0 0`, whose D is 10 and length 4.
abbrev pub table_a : ℕ → ℕ → List ℕ
table_a d l =
    (3 ∷ 1 ∷ []) ++
    (20 ∷ d ∷ 3 ∷ 0 ∷ []) ++
    (30 ∷ 20 ∷ 9 ∷ 2 ∷ 1 ∷ 0 ∷ 1 ∷ 2 ∷ 0 ∷ 0 ∷ []) ++
    (40 ∷ 30 ∷ 10 ∷ 2 ∷ 1 ∷ 0 ∷ l ∷ 2 ∷ 0 ∷ 0 ∷ [])

-- "release 2 at 0 .. release 1 at 2", before the release of task 0: what M1 and M2 have in common.
abbrev pub first_events : List Line
first_events =
    (release 2 0 answers went_on (runs 2 30)) ∷
    (step 1 answers went_on (runs 2 21)) ∷
    (release 1 2 answers went_on (runs 2 21)) ∷
    []

-- "The entire run"
abbrev pub m1 : Morning
m1 = run (table_a 10 4)
    (first_events ++
    (release 0 3 answers went_on (runs 0 13)) ∷
    (step 6 answers finished (minus 7) (runs 2 21)) ∷
    (step 8 answers went_on (runs 1 22)) ∷
    (step 9 answers went_on (runs 1 22)) ∷
    (step 10 answers went_on (runs 1 22)) ∷
    (step 17 answers finished (minus 5) (runs 2 30)) ∷
    (step 22 answers finished (minus 8) idle) ∷
    [])

-- "with D of task 0 at 18, the release at 3 answers runs 2, 21 (a tie, as 002, 5.2 says)"
abbrev pub m2 : Morning
m2 = run (table_a 18 4) (first_events ++ (release 0 3 answers went_on (runs 2 21)) ∷ [])

-- "A's verdict is FITS"
abbrev pub m3 : Morning
m3 = judged (table_a 10 4) (says FITS 0)

-- "with task 2's length 8, FITS"
abbrev pub m4 : Morning
m4 = judged (table_a 10 8) (says FITS 0)

-- "with 9, LATE 20 (12 + 9)"
abbrev pub m5 : Morning
m5 = judged (table_a 10 9) (says LATE 20)

-- "one task T, D, C"
abbrev pub one_task : ℕ → ℕ → ℕ → List ℕ
one_task t d c = 1 ∷ 0 ∷ t ∷ d ∷ c ∷ 0 ∷ []

-- "2, 2, 2: FITS"
abbrev pub m6 : Morning
m6 = judged (one_task 2 2 2) (says FITS 0)

-- "2, 1, 2: LATE 1"
abbrev pub m7 : Morning
m7 = judged (one_task 2 1 2) (says LATE 1)

-- "2, 5, 3: HEAVY"
abbrev pub m8 : Morning
m8 = judged (one_task 2 5 3) (says HEAVY 0)

-- "one period of 1,000,000 is never LONG": every table of one task with that T, whatever its D, C and plan
abbrev pub m9 : Morning
m9 = every ((ws : List ℕ) (t : Table) → check_of ws ≡ sound t → tasks_of t ≡ 1 → (task_of t 0).T ≡ 1_000_000 →
    verdict_of ws ≡ says LONG 0 → ⊥)

-- "with a second period of 3 it is": every table with a period of 1,000,000 and one of 3, whatever else it has
abbrev pub m10 : Morning
m10 = every ((ws : List ℕ) (t : Table) (i j : ℕ) → check_of ws ≡ sound t → i < tasks_of t → j < tasks_of t → (task_of t i).T ≡ 1_000_000 → (task_of t j).T ≡ 3 →
    verdict_of ws ≡ says LONG 0)

-- "an empty list: SHORT at 0"
abbrev pub m11_empty : Morning
m11_empty = checked [] (table.says SHORT 0)

-- "`0`: COUNT at 0"
abbrev pub m11_zero : Morning
m11_zero = checked (0 ∷ []) (table.says COUNT 0)

-- "one resource; each T 100, C 5": "task 0 D 20 and task 1 D 30, each with one section of length 2 on resource 0; task 2 D 5, no steps"
abbrev pub table_tie : List ℕ
table_tie =
    (3 ∷ 1 ∷ []) ++
    (100 ∷ 20 ∷ 5 ∷ 2 ∷ 1 ∷ 0 ∷ 2 ∷ 2 ∷ 0 ∷ 0 ∷ []) ++
    (100 ∷ 30 ∷ 5 ∷ 2 ∷ 1 ∷ 0 ∷ 2 ∷ 2 ∷ 0 ∷ 0 ∷ []) ++
    (100 ∷ 5 ∷ 5 ∷ 0 ∷ [])

-- "Release 1 at 0: runs 1, 30; step at 1: runs 1, 21; release 0 at 1: runs 1, 21; release 2 at 2: runs 2, 7; step at 4: lateness -3; runs 1, 21."
abbrev pub m12 : Morning
m12 = run table_tie
    ((release 1 0 answers went_on (runs 1 30)) ∷
    (step 1 answers went_on (runs 1 21)) ∷
    (release 0 1 answers went_on (runs 1 21)) ∷
    (release 2 2 answers went_on (runs 2 7)) ∷
    (step 4 answers finished (minus 3) (runs 1 21)) ∷
    [])

-- The table.
abbrev pub mornings : List Morning
mornings = m1 ∷ m2 ∷ m3 ∷ m4 ∷ m5 ∷ m6 ∷ m7 ∷ m8 ∷ m9 ∷ m10 ∷ m11_empty ∷ m11_zero ∷ m12 ∷ []
