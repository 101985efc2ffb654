-- What is kept, and how many words the table has, as numbers of 64 bits: what a controller's state keeps beside the words, and what an event is lent. Every
-- list of numbers is read in one way, nothing is read modulo anything, and what is read is written back as it was (law `numbers_back`, proofs/Numbers).
-- Assumes nothing.
use Rattle.std.specs.Prelude.{ℕ, zero, suc, ◌+◌, ◌*◌, List, [], ◌∷◌, ◌++◌, get_or, drop}
use Rattle.table.specs.Limits.{most_tasks, most_held}
use Rattle.machine.specs.declared.Job.{Job}
use Rattle.machine.specs.declared.Kept.{Kept}

-- Where things stand: how many words the table has, the clock, the count of accepted releases, the ready set and the set of tasks that have had a release; then
-- the rows.
abbrev pub length_at : ℕ
length_at = 0

abbrev pub clock_at : ℕ
clock_at = 1

abbrev pub count_at : ℕ
count_at = 2

abbrev pub ready_at : ℕ
ready_at = 3

abbrev pub had_at : ℕ
had_at = 4

abbrev pub rows_at : ℕ
rows_at = 5

-- Places in a row, counted from its start.
abbrev pub base_at : ℕ
base_at = 0

abbrev pub active_at : ℕ
active_at = 1

abbrev pub number_at : ℕ
number_at = 2

abbrev pub place_at : ℕ
place_at = 3

abbrev pub saved_at : ℕ
saved_at = 4

abbrev pub last_at : ℕ
last_at = saved_at + most_held

abbrev pub row_size : ℕ
row_size = last_at + 1

-- Where the row of task i starts.
abbrev pub row_at : ℕ → ℕ
row_at i = rows_at + row_size * i

-- How many numbers there are.
abbrev pub most_numbers : ℕ
most_numbers = rows_at + most_tasks * row_size

-- ---- read

-- The row that a list of numbers starts with.
abbrev pub job_in : List ℕ → Job
job_in xs = record {
  base = get_or xs base_at 0;
  active = get_or xs active_at 0;
  number = get_or xs number_at 0;
  place = get_or xs place_at 0;
  saved = get_or xs saved_at 0 ∷ get_or xs (saved_at + 1) 0 ∷ get_or xs (saved_at + 2) 0 ∷ get_or xs (saved_at + 3) 0 ∷ [];
  last = get_or xs last_at 0;
}

-- The n rows that it starts with.
unfoldable pub jobs_in : ℕ → List ℕ → List Job
jobs_in zero xs = []
jobs_in (suc n) xs = job_in xs ∷ jobs_in n (drop row_size xs)

-- How many words the table has.
abbrev pub used_in : List ℕ → ℕ
used_in numbers = get_or numbers length_at 0

-- What is kept.
unfoldable pub kept_in : List ℕ → Kept
kept_in numbers = record {
  clock = get_or numbers clock_at 0;
  count = get_or numbers count_at 0;
  ready = get_or numbers ready_at 0;
  had = get_or numbers had_at 0;
  rows = jobs_in most_tasks (drop rows_at numbers);
}

-- ---- written

-- The numbers of a row.
abbrev pub job_cells : Job → List ℕ
job_cells job =
    job.base ∷
    job.active ∷
    job.number ∷
    job.place ∷
    get_or job.saved 0 0 ∷
    get_or job.saved 1 0 ∷
    get_or job.saved 2 0 ∷
    get_or job.saved 3 0 ∷
    job.last ∷
    []

unfoldable pub row_cells : List Job → List ℕ
row_cells [] = []
row_cells (job ∷ jobs) = job_cells job ++ row_cells jobs

-- All of them, of how many words the table has and of what is kept.
unfoldable pub numbers_of : ℕ → Kept → List ℕ
numbers_of used kept = used ∷ kept.clock ∷ kept.count ∷ kept.ready ∷ kept.had ∷ row_cells kept.rows
