-- The image of a state: `image_size` numbers of 64 bits. The first hold the table's words, two in each; then come the length, the clock, the count of accepted
-- releases, the ready set and the set of tasks that have had a release; then a row for each task that a table may have: base, active, release number, place, four
-- saved deadlines, last release. Every list of numbers is read as a state (`decode`), and what is written is read back (theorem `decode_encode`).
-- Assumes nothing.
use Rattle.std.specs.Prelude.{ℕ, zero, suc, ◌+◌, ◌*◌, ◌/◌, ◌%◌, ◌^◌, ◌<◌, ◌≡◌, List, [], ◌∷◌, ◌++◌, length, get_or, take, drop}
use Rattle.numbers.specs.Each.{Each}
use Rattle.table.specs.Limits.{room, most_tasks, most_held}
use Rattle.machine.specs.declared.Job.{Job}
use Rattle.machine.specs.declared.Kept.{Kept}
use Rattle.dispatch.specs.declared.State.{State}

-- Where things stand. The words take the first numbers, two in each; behind them stand the length, the clock, the count and the two sets, and then the rows.
abbrev pub length_at : ℕ
length_at = room / 2

abbrev pub clock_at : ℕ
clock_at = length_at + 1

abbrev pub count_at : ℕ
count_at = length_at + 2

abbrev pub ready_at : ℕ
ready_at = length_at + 3

abbrev pub had_at : ℕ
had_at = length_at + 4

abbrev pub rows_at : ℕ
rows_at = length_at + 5

-- Places in a row, counted from its start, which is its base deadline.
abbrev pub active_at : ℕ
active_at = 1

abbrev pub number_at : ℕ
number_at = 2

abbrev pub place_at : ℕ
place_at = 3

abbrev pub saved_at : ℕ
saved_at = 4

abbrev pub last_at : ℕ
last_at = saved_at + most_held

abbrev pub row_size : ℕ
row_size = last_at + 1

-- How many numbers an image has.
abbrev pub image_size : ℕ
image_size = rows_at + most_tasks * row_size

-- A number of 64 bits holds two words, the first in its low half. Where a field has 32 bits and its number 64, the field is the low half too, so that
-- every number is some field and no state is refused for its image.
abbrev pub low : ℕ → ℕ
low x = x % 2 ^ 32

abbrev pub high : ℕ → ℕ
high x = x / 2 ^ 32

abbrev pub pair : ℕ → ℕ → ℕ
pair first second = first + second * 2 ^ 32

unfoldable pub unpacked : List ℕ → List ℕ
unpacked [] = []
unpacked (x ∷ xs) = low x ∷ high x ∷ unpacked xs

unfoldable pub packed : List ℕ → List ℕ
packed [] = []
packed (first ∷ []) = first ∷ []
packed (first ∷ second ∷ words) = pair first second ∷ packed words

-- The row that a list of numbers starts with.
abbrev pub job_in : List ℕ → Job
job_in xs = record {
  base = get_or xs 0 0;
  active = get_or xs active_at 0;
  number = get_or xs number_at 0;
  place = low (get_or xs place_at 0);
  saved = get_or xs saved_at 0 ∷ get_or xs (saved_at + 1) 0 ∷ get_or xs (saved_at + 2) 0 ∷ get_or xs (saved_at + 3) 0 ∷ [];
  last = get_or xs last_at 0;
}

-- The n rows that it starts with.
unfoldable pub jobs_in : ℕ → List ℕ → List Job
jobs_in zero xs = []
jobs_in (suc n) xs = job_in xs ∷ jobs_in n (drop row_size xs)

-- The state that an image is, whatever numbers stand in it.
unfoldable pub decode : List ℕ → State
decode image = record {
  words = unpacked (take length_at image);
  length = get_or image length_at 0;
  kept = record {
    clock = get_or image clock_at 0;
    count = get_or image count_at 0;
    ready = low (get_or image ready_at 0);
    had = low (get_or image had_at 0);
    rows = jobs_in most_tasks (drop rows_at image);
  };
}

-- The numbers of a row.
abbrev pub job_cells : Job → List ℕ
job_cells job =
    job.base ∷
    job.active ∷
    job.number ∷
    job.place ∷
    get_or job.saved 0 0 ∷
    get_or job.saved 1 0 ∷
    get_or job.saved 2 0 ∷
    get_or job.saved 3 0 ∷
    job.last ∷
    []

unfoldable pub row_cells : List Job → List ℕ
row_cells [] = []
row_cells (job ∷ jobs) = job_cells job ++ row_cells jobs

-- What changes with an event, from the clock on.
abbrev pub kept_cells : Kept → List ℕ
kept_cells kept = kept.clock ∷ kept.count ∷ kept.ready ∷ kept.had ∷ row_cells kept.rows

-- The image of a state.
unfoldable pub encode : State → List ℕ
encode s = packed s.words ++ (s.length ∷ kept_cells s.kept)

abbrev pub Half : ℕ → Type 0
Half x = x < 2 ^ 32

-- What the types of the fields say of a state: how long its lists are, and that a field of 32 bits holds no more. Every state of the program is so.
pub record TypedJob (job : Job) : Type 0 where
  pub place_half : Half job.place
  pub four_saved : length job.saved ≡ most_held

pub record TypedState (s : State) : Type 0 where
  pub all_words : length s.words ≡ room
  pub words_half : Each Half s.words
  pub ready_half : Half s.kept.ready
  pub had_half : Half s.kept.had
  pub all_rows : length s.kept.rows ≡ most_tasks
  pub rows_typed : Each TypedJob s.kept.rows
