-- What is written is read back: `decode_encode`, for every state that is as its fields' types say. Words by pairs, rows by nines, and the parts of an image lie
-- one behind the other, so that each is found at its place. Assumes nothing.
use Prim.Native.Nat.{ℕ, zero, suc, ◌+◌, ◌^◌, ◌<◌}
use mathlib.Core.Path.{◌≡◌, refl, sym, ap, ◌∙◌}
use mathlib.Core.List.{List, [], ◌∷◌, ◌++◌}
use native.Mathlib.Omega.{arith}
use lib.ListN.{length, get_or, take, drop, replicate}
use lib.Seq.{take_at, drop-append-add, get_or-append-add}
use Rattle.table.specs.Limits.{most_tasks}
use Rattle.machine.specs.declared.Job.{Job}
use Rattle.machine.proofs.Numbers.{four}
use Rattle.dispatch.specs.declared.State.{State}
use Rattle.dispatch.specs.State.{zero_state}
use Rattle.numbers.specs.Each.{Each}
use Rattle.board.specs.Image.{length_at, ready_at, had_at, rows_at, image_size, low, high, pair, unpacked, packed, job_in, jobs_in, decode, job_cells, row_cells, kept_cells, encode, Half, TypedJob, TypedState}

-- Two words in one number, and out again.
pub low_pair : (a b : ℕ) → a < 2 ^ 32 → low (pair a b) ≡ a
low_pair a b h = omega arith

pub high_pair : (a b : ℕ) → a < 2 ^ 32 → high (pair a b) ≡ b
high_pair a b h = omega arith

pub pair_halves : (x : ℕ) → pair (low x) (high x) ≡ x
pair_halves x = omega arith

pub low_half : (x : ℕ) → x < 2 ^ 32 → low x ≡ x
low_half x h = omega arith

-- Whatever numbers are read as words, they are the words' numbers.
pub packed_unpacked : (xs : List ℕ) → packed (unpacked xs) ≡ xs
unfolding packed unpacked
packed_unpacked [] = refl
packed_unpacked (x ∷ xs) = λ i. pair_halves x i ∷ packed_unpacked xs i

-- Words by pairs, over the number of pairs.
pub unpacked_packed : (n : ℕ) (ws : List ℕ) → length ws ≡ n + n → Each Half ws → unpacked (packed ws) ≡ ws
unfolding packed unpacked
unpacked_packed n [] e h = refl
unpacked_packed n (a ∷ []) e h = absurd (omega arith)
unpacked_packed zero (a ∷ b ∷ ws) e h = absurd (omega arith)
unpacked_packed (suc n) (a ∷ b ∷ ws) e h =
    let rest : unpacked (packed ws) ≡ ws = unpacked_packed n ws (omega arith) h.1.1 in
    λ i. low_pair a b h.0 i ∷ high_pair a b h.0 i ∷ rest i

pub length_packed : (n : ℕ) (ws : List ℕ) → length ws ≡ n + n → length (packed ws) ≡ n
unfolding packed
length_packed n [] e = omega arith
length_packed n (a ∷ []) e = absurd (omega arith)
length_packed zero (a ∷ b ∷ ws) e = absurd (omega arith)
length_packed (suc n) (a ∷ b ∷ ws) e = ap suc (length_packed n ws (omega arith))

-- A row is read back, whatever stands behind it.
pub job_cells_lem : (job : Job) (rest : List ℕ) → TypedJob job → job_in (job_cells job ++ rest) ≡ job
job_cells_lem job rest whole = λ i. record {
  base = job.base;
  active = job.active;
  number = job.number;
  place = low_half job.place whole.place_half i;
  saved = four job.saved whole.four_saved i;
  last = job.last;
}

pub jobs_cells : (jobs : List Job) → Each TypedJob jobs → jobs_in (length jobs) (row_cells jobs) ≡ jobs
unfolding jobs_in row_cells
jobs_cells [] whole = refl
jobs_cells (job ∷ jobs) whole = λ i. job_cells_lem job (row_cells jobs) whole.0 i ∷ jobs_cells jobs whole.1 i

-- What stands behind the first n.
pub behind_at : (p q : List ℕ) (n k : ℕ) → length p ≡ n → get_or (p ++ q) (n + k) 0 ≡ get_or q k 0
behind_at p q n k e = rw (← e) (get_or-append-add p q k 0)

pub behind_drop : (p q : List ℕ) (n k : ℕ) → length p ≡ n → drop (n + k) (p ++ q) ≡ drop k q
behind_drop p q n k e = rw (← e) (drop-append-add p q k)

-- What is written is read back, of every state that is as its fields' types say.
pub decode_encode : (s : State) → TypedState s → decode (encode s) ≡ s
unfolding decode encode
decode_encode s whole =
    let front = packed s.words in
    let back = s.length ∷ kept_cells s.kept in
    let all : length front ≡ length_at = length_packed length_at s.words whole.all_words in
    let words_back : unpacked (take length_at (front ++ back)) ≡ s.words =
    ap unpacked (take_at front back length_at all) ∙ unpacked_packed length_at s.words whole.all_words whole.words_half in
    let ready_back : low (get_or (front ++ back) ready_at 0) ≡ s.kept.ready =
    ap low (behind_at front back length_at 3 all) ∙ low_half s.kept.ready whole.ready_half in
    let had_back : low (get_or (front ++ back) had_at 0) ≡ s.kept.had =
    ap low (behind_at front back length_at 4 all) ∙ low_half s.kept.had whole.had_half in
    let rows_back : jobs_in most_tasks (drop rows_at (front ++ back)) ≡ s.kept.rows =
    ap (jobs_in most_tasks) (behind_drop front back length_at 5 all)
    ∙ ap (λ (n : ℕ). jobs_in n (row_cells s.kept.rows)) (sym whole.all_rows)
    ∙ jobs_cells s.kept.rows whole.rows_typed in
    λ i. record {
      words = words_back i;
      length = behind_at front back length_at 0 all i;
      kept = record {
        clock = behind_at front back length_at 1 all i;
        count = behind_at front back length_at 2 all i;
        ready = ready_back i;
        had = had_back i;
        rows = rows_back i;
      };
    }

-- "a state whose numbers are all zero": its image is zeros too.
pub zero_image : encode zero_state ≡ replicate image_size 0
unfolding encode packed row_cells zero_state
zero_image = refl
