-- A state's numbers: where a row's are read, what one store changes, and that what is read is written back as it was. Assumes nothing.
use Prim.Native.Nat.{ℕ, zero, suc, ◌+◌, ◌*◌, ◌≤◌, ◌<◌}
use mathlib.Core.Path.{◌≡◌, refl, sym, ap, ◌∙◌}
use mathlib.Core.List.{List, [], ◌∷◌, ◌++◌, append_assoc}
use native.Mathlib.Nat.{add-zero, add_assoc}
use native.Mathlib.Numerals.{towards_suc}
use native.Mathlib.Omega.{arith}
use lib.ListN.{length, get_or, take, drop, set, length-drop}
use lib.Seq.{drop-drop, get_or-drop, sets-eq, take-append-add, drop-append-add}
use Rattle.table.specs.Limits.{most_tasks, most_held}
use Rattle.machine.specs.Order.{no_job, row_of}
use Rattle.machine.specs.Fields.{with_clock, with_count, with_ready, with_had, with_row}
use Rattle.machine.specs.Numbers.{clock_at, count_at, ready_at, had_at, rows_at, base_at, active_at, number_at, place_at, saved_at, last_at, row_size, row_at, most_numbers, job_in, jobs_in, used_in, kept_in, job_cells, row_cells, numbers_of}
use Rattle.machine.specs.declared.Job.{Job}

-- ---- a row where it lies

pub length_jobs : (n : ℕ) (xs : List ℕ) → length (jobs_in n xs) ≡ n
unfolding jobs_in
length_jobs zero xs = refl
length_jobs (suc n) xs = ap suc (length_jobs n (drop row_size xs))

job_in_lem : (n : ℕ) (xs : List ℕ) (i : ℕ) → i < n → get_or (jobs_in n xs) i no_job ≡ job_in (drop (row_size * i) xs)
unfolding jobs_in
job_in_lem zero xs i h = absurd (omega arith)
job_in_lem (suc n) xs zero h = refl
job_in_lem (suc n) xs (suc i) h =
    let more : row_size * suc i ≡ row_size + row_size * i = omega arith in
    job_in_lem n (drop row_size xs) i (omega arith) ∙ ap job_in (drop-drop (row_size * i) row_size xs ∙ ap (λ k. drop k xs) (sym more))

pub row_in : (numbers : List ℕ) (i : ℕ) → i < most_tasks → row_of (kept_in numbers) i ≡ job_in (drop (row_at i) numbers)
unfolding kept_in
row_in numbers i h = job_in_lem most_tasks (drop rows_at numbers) i h ∙ ap job_in (drop-drop (row_size * i) rows_at numbers)

-- The numbers of a row, read one by one.
pub row_read : (numbers : List ℕ) (i : ℕ) → i < most_tasks →
    record {
      base = get_or numbers (row_at i + base_at) 0;
      active = get_or numbers (row_at i + active_at) 0;
      number = get_or numbers (row_at i + number_at) 0;
      place = get_or numbers (row_at i + place_at) 0;
      saved =
          get_or numbers (row_at i + saved_at) 0 ∷
          get_or numbers (row_at i + saved_at + 1) 0 ∷
          get_or numbers (row_at i + saved_at + 2) 0 ∷
          get_or numbers (row_at i + saved_at + 3) 0 ∷
          [];
      last = get_or numbers (row_at i + last_at) 0;
    }
    ≡ row_of (kept_in numbers) i
row_read numbers i h = rw (row_in numbers i h) (simp (get_or-drop, add-zero, add_assoc))

-- ---- one of the numbers before the rows is stored

-- The numbers before the rows, and the rows.
record Parted (numbers : List ℕ) : Type 0 where
  used : ℕ
  clock : ℕ
  count : ℕ
  ready : ℕ
  had : ℕ
  rows : List ℕ
  is : numbers ≡ used ∷ clock ∷ count ∷ ready ∷ had ∷ rows

parted : (numbers : List ℕ) → rows_at ≤ length numbers → Parted numbers
parted [] h = absurd (omega arith)
parted (a ∷ []) h = absurd (omega arith)
parted (a ∷ b ∷ []) h = absurd (omega arith)
parted (a ∷ b ∷ c ∷ []) h = absurd (omega arith)
parted (a ∷ b ∷ c ∷ d ∷ []) h = absurd (omega arith)
parted (a ∷ b ∷ c ∷ d ∷ e ∷ rows) h = record { used = a; clock = b; count = c; ready = d; had = e; rows = rows; is = refl }

module _ (numbers : List ℕ) (x : ℕ) (h : rows_at ≤ length numbers) where
  pub put_clock : kept_in (set numbers clock_at x) ≡ with_clock x (kept_in numbers)
  unfolding kept_in
  put_clock = rw (parted numbers h).is

  pub put_count : kept_in (set numbers count_at x) ≡ with_count x (kept_in numbers)
  unfolding kept_in
  put_count = rw (parted numbers h).is

  pub put_ready : kept_in (set numbers ready_at x) ≡ with_ready x (kept_in numbers)
  unfolding kept_in
  put_ready = rw (parted numbers h).is

  pub put_had : kept_in (set numbers had_at x) ≡ with_had x (kept_in numbers)
  unfolding kept_in
  put_had = rw (parted numbers h).is

-- ---- a row is stored

-- A row's numbers, and what stands behind them.
cells_back : (xs : List ℕ) → row_size ≤ length xs → job_cells (job_in xs) ++ drop row_size xs ≡ xs
cells_back [] h = absurd (omega arith)
cells_back (a ∷ []) h = absurd (omega arith)
cells_back (a ∷ b ∷ []) h = absurd (omega arith)
cells_back (a ∷ b ∷ c ∷ []) h = absurd (omega arith)
cells_back (a ∷ b ∷ c ∷ d ∷ []) h = absurd (omega arith)
cells_back (a ∷ b ∷ c ∷ d ∷ e ∷ []) h = absurd (omega arith)
cells_back (a ∷ b ∷ c ∷ d ∷ e ∷ f ∷ []) h = absurd (omega arith)
cells_back (a ∷ b ∷ c ∷ d ∷ e ∷ f ∷ g ∷ []) h = absurd (omega arith)
cells_back (a ∷ b ∷ c ∷ d ∷ e ∷ f ∷ g ∷ i ∷ []) h = absurd (omega arith)
cells_back (a ∷ b ∷ c ∷ d ∷ e ∷ f ∷ g ∷ i ∷ j ∷ xs) h = refl

-- Four saved deadlines, one by one.
pub four : (xs : List ℕ) → length xs ≡ most_held → get_or xs 0 0 ∷ get_or xs 1 0 ∷ get_or xs 2 0 ∷ get_or xs 3 0 ∷ [] ≡ xs
four [] e = absurd (omega arith)
four (a ∷ []) e = absurd (omega arith)
four (a ∷ b ∷ []) e = absurd (omega arith)
four (a ∷ b ∷ c ∷ []) e = absurd (omega arith)
four (a ∷ b ∷ c ∷ d ∷ []) e = refl
four (a ∷ b ∷ c ∷ d ∷ f ∷ xs) e = absurd (omega arith)

-- A row is read back, whatever stands behind it.
pub job_cells_lem : (job : Job) (rest : List ℕ) → length job.saved ≡ most_held → job_in (job_cells job ++ rest) ≡ job
job_cells_lem job rest e = λ i. record {
  base = job.base;
  active = job.active;
  number = job.number;
  place = job.place;
  saved = four job.saved e i;
  last = job.last;
}

-- A row's numbers over those that a list has from a place on.
abbrev pub cells_over : Job → ℕ → List ℕ → List ℕ
cells_over job at xs = take at xs ++ (job_cells job ++ drop (at + row_size) xs)

-- What stands before the place stays.
over_behind : (job : Job) (cells xs : List ℕ) (at : ℕ) → cells_over job (length cells + at) (cells ++ xs) ≡ cells ++ cells_over job at xs
over_behind job cells xs at =
    ap (λ l. l ++ (job_cells job ++ drop (length cells + at + row_size) (cells ++ xs))) (take-append-add cells xs at)
    ∙ ap (λ l. (cells ++ take at xs) ++ (job_cells job ++ l))
    (ap (λ n. drop n (cells ++ xs)) (add_assoc (length cells) at row_size) ∙ drop-append-add cells xs (at + row_size))
    ∙ append_assoc cells (take at xs) (job_cells job ++ drop (at + row_size) xs)

module _ (job : Job) (saved : length job.saved ≡ most_held) where
  rows_over : (k : ℕ) (xs : List ℕ) (i : ℕ) → i < k → row_size * k ≤ length xs → jobs_in k (cells_over job (row_size * i) xs) ≡ set (jobs_in k xs) i job
  unfolding jobs_in
  rows_over zero xs i h l = absurd (omega arith)
  rows_over (suc k) xs zero h l = ap (λ (j : Job). j ∷ jobs_in k (drop row_size xs)) (job_cells_lem job (drop row_size xs) saved)
  rows_over (suc k) xs (suc i) h l =
      let cells = job_cells (job_in xs) in
      let rest = drop row_size xs in
      let more : row_size * suc i ≡ row_size + row_size * i = omega arith in
      let over : cells_over job (row_size * suc i) xs ≡ cells ++ cells_over job (row_size * i) rest =
      ap (λ n. cells_over job n xs) more ∙ ap (cells_over job (row_size + row_size * i)) (sym (cells_back xs (omega arith)))
      ∙ over_behind job cells rest (row_size * i) in
      ap (jobs_in (suc k)) over
      ∙ ap (λ (js : List Job). job_in xs ∷ js) (rows_over k rest i (omega arith) (omega (arith, length-drop row_size xs)))

  -- The row of task i is written over what lay there.
  pub put_row : (numbers : List ℕ) (i : ℕ) → length numbers ≡ most_numbers → i < most_tasks →
      kept_in (cells_over job (row_at i) numbers) ≡ with_row i job (kept_in numbers)
  unfolding kept_in
  put_row numbers i e h =
      let p = parted numbers (omega arith) in
      let front = p.used ∷ p.clock ∷ p.count ∷ p.ready ∷ p.had ∷ [] in
      let size : row_size * most_tasks ≤ length p.rows = omega (arith, ap length p.is) in
      ap (λ l. kept_in (cells_over job (row_at i) l)) p.is
      ∙ ap kept_in (over_behind job front p.rows (row_size * i))
      ∙ ap (λ (js : List Job). record { clock = p.clock; count = p.count; ready = p.ready; had = p.had; rows = js })
      (rows_over most_tasks p.rows i h size)
      ∙ ap (λ l. with_row i job (kept_in l)) (sym p.is)

-- The stores of a row, one behind the other.
pub row_stores : (l : List ℕ) (at : ℕ) (job : Job) → at + row_size ≤ length l →
    set
    (set
    (set
    (set
    (set
    (set
    (set
    (set
    (set l (at + base_at) job.base) (at + active_at) job.active)
    (at + number_at) job.number)
    (at + place_at) job.place)
    (at + saved_at) (get_or job.saved 0 0))
    (at + saved_at + 1) (get_or job.saved 1 0))
    (at + saved_at + 2) (get_or job.saved 2 0))
    (at + saved_at + 3) (get_or job.saved 3 0))
    (at + last_at) job.last
    ≡ cells_over job at l
row_stores l at job h = simp (add-zero, towards_suc) (sets-eq (job_cells job) l at h ∙ append_assoc (take at l) (job_cells job) (drop (at + row_size) l))

-- How many words the table has is read by no row's store.
pub put_row_used : (job : Job) (numbers : List ℕ) (i : ℕ) → length numbers ≡ most_numbers → used_in (cells_over job (row_at i) numbers) ≡ used_in numbers
put_row_used job numbers i e =
    let p = parted numbers (omega arith) in
    let front = p.used ∷ p.clock ∷ p.count ∷ p.ready ∷ p.had ∷ [] in
    ap (λ l. used_in (cells_over job (row_at i) l)) p.is ∙ ap used_in (over_behind job front p.rows (row_size * i)) ∙ ap used_in (sym p.is)

-- ---- what is read is written back as it was

rows_back : (k : ℕ) (xs : List ℕ) → length xs ≡ row_size * k → row_cells (jobs_in k xs) ≡ xs
unfolding jobs_in row_cells
rows_back zero [] e = refl
rows_back zero (x ∷ xs) e = absurd (omega arith)
rows_back (suc k) xs e =
    ap (λ l. job_cells (job_in xs) ++ l) (rows_back k (drop row_size xs) (omega (arith, length-drop row_size xs))) ∙ cells_back xs (omega arith)

pub numbers_back : (numbers : List ℕ) → length numbers ≡ most_numbers → numbers_of (used_in numbers) (kept_in numbers) ≡ numbers
unfolding kept_in numbers_of
numbers_back numbers e =
    let p = parted numbers (omega arith) in
    ap (λ l. numbers_of (used_in l) (kept_in l)) p.is
    ∙ ap (λ l. p.used ∷ p.clock ∷ p.count ∷ p.ready ∷ p.had ∷ l) (rows_back most_tasks p.rows (omega (arith, ap length p.is)))
    ∙ sym p.is
