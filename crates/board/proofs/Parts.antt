-- What the loops of `image` do, a turn at a time: a list filled from the front, words read and written by pairs, rows read and written one by one. Assumes nothing.
use Prim.Native.Nat.{ℕ, zero, suc, ◌+◌, ◌-◌, ◌*◌, ◌≤◌, ◌<◌}
use mathlib.Core.Path.{◌≡◌, refl, sym, ap, ◌∙◌}
use mathlib.Core.List.{List, [], ◌∷◌, ◌++◌, append_assoc, append-nil}
use native.Mathlib.Numerals.{add-one}
use native.Mathlib.Omega.{arith}
use lib.ListN.{length, get_or, take, drop, set, length-append, take-append-drop, length-drop, drop_of_length-le}
use lib.Seq.{set_at, drop-cons, take-suc, append_snoc, length-take-le, sets-eq, take_at, drop-drop, take_all, take-suc-set}
use Rattle.table.specs.Limits.{room, most_tasks, most_held}
use Rattle.machine.specs.declared.Job.{Job}
use Rattle.machine.specs.declared.Kept.{Kept}
use Rattle.dispatch.specs.declared.State.{State}
use Rattle.machine.specs.Order.{no_job}
use Rattle.board.specs.Image.{length_at, clock_at, count_at, ready_at, had_at, rows_at, saved_at, row_size, image_size, low, high, pair, unpacked, packed, job_in, jobs_in, job_cells, row_cells, kept_cells, encode}
use Rattle.board.proofs.Codec.{behind_drop}

-- A list filled from the front: one store more, and two.
pub fill_more : {A : Type 0} (d s : List A) (j : ℕ) (z : A) → j < length d → j < length s →
    set (take j s ++ drop j d) j (get_or s j z) ≡ take (suc j) s ++ drop (suc j) d
fill_more d s j z hd hs =
    ap (λ l. set (take j s ++ l) j (get_or s j z)) (drop-cons d j z hd)
    ∙ set_at (take j s) (get_or d j z) (drop (suc j) d) (get_or s j z) j (length-take-le j s (omega arith))
    ∙ sym (append_snoc (take j s) (get_or s j z) (drop (suc j) d))
    ∙ ap (λ l. l ++ drop (suc j) d) (sym (take-suc s j z hs))

pub fill_two : (d s : List ℕ) (k x y : ℕ) → 2 * k + 1 < length d → 2 * k + 1 < length s → x ≡ get_or s (2 * k) 0 → y ≡ get_or s (2 * k + 1) 0 →
    set (set (take (2 * k) s ++ drop (2 * k) d) (2 * k) x) (2 * k + 1) y ≡ take (2 * (k + 1)) s ++ drop (2 * (k + 1)) d
fill_two d s k x y hd hs ex ey =
    let twice : 2 * (k + 1) ≡ suc (suc (2 * k)) = omega arith in
    rw (ex, ey, twice, add-one (2 * k))
    (ap (λ l. set l (suc (2 * k)) (get_or s (suc (2 * k)) 0)) (fill_more d s (2 * k) 0 (omega arith) (omega arith))
    ∙ fill_more d s (suc (2 * k)) 0 (omega arith) (omega arith))

-- The words of a number.
pub length_unpacked : (xs : List ℕ) → length (unpacked xs) ≡ length xs + length xs
unfolding unpacked
length_unpacked [] = refl
length_unpacked (x ∷ xs) = omega (arith, length_unpacked xs)

pub first_word : (xs : List ℕ) (k : ℕ) → get_or (unpacked xs) (2 * k) 0 ≡ low (get_or xs k 0)
unfolding unpacked
first_word [] k = refl
first_word (x ∷ xs) zero = refl
first_word (x ∷ xs) (suc k) =
    let twice : 2 * suc k ≡ suc (suc (2 * k)) = omega arith in
    rw twice (first_word xs k)

pub second_word : (xs : List ℕ) (k : ℕ) → get_or (unpacked xs) (2 * k + 1) 0 ≡ high (get_or xs k 0)
unfolding unpacked
second_word [] k = refl
second_word (x ∷ xs) zero = refl
second_word (x ∷ xs) (suc k) =
    let twice : 2 * suc k + 1 ≡ suc (suc (2 * k + 1)) = omega arith in
    rw twice (second_word xs k)

-- The number of two words.
pub packed_at : (n : ℕ) (ws : List ℕ) (k : ℕ) → length ws ≡ n + n → k < n → get_or (packed ws) k 0 ≡ pair (get_or ws (2 * k) 0) (get_or ws (2 * k + 1) 0)
unfolding packed
packed_at n [] k e h = absurd (omega arith)
packed_at n (a ∷ []) k e h = absurd (omega arith)
packed_at zero (a ∷ b ∷ ws) k e h = absurd (omega arith)
packed_at (suc n) (a ∷ b ∷ ws) zero e h = refl
packed_at (suc n) (a ∷ b ∷ ws) (suc k) e h =
    let twice : 2 * suc k ≡ suc (suc (2 * k)) = omega arith in
    let more : 2 * suc k + 1 ≡ suc (suc (2 * k + 1)) = omega arith in
    rw (more, twice) (packed_at n ws k (omega arith) (omega arith))

-- Row by row.
pub length_jobs : (n : ℕ) (xs : List ℕ) → length (jobs_in n xs) ≡ n
unfolding jobs_in
length_jobs zero xs = refl
length_jobs (suc n) xs = ap suc (length_jobs n (drop row_size xs))

pub job_in_lem : (n : ℕ) (xs : List ℕ) (i : ℕ) → i < n → get_or (jobs_in n xs) i no_job ≡ job_in (drop (row_size * i) xs)
unfolding jobs_in
job_in_lem zero xs i h = absurd (omega arith)
job_in_lem (suc n) xs zero h = refl
job_in_lem (suc n) xs (suc i) h =
    let more : row_size * suc i ≡ row_size + row_size * i = omega arith in
    job_in_lem n (drop row_size xs) i (omega arith) ∙ ap job_in (drop-drop (row_size * i) row_size xs ∙ ap (λ k. drop k xs) (sym more))

pub row_of : (image : List ℕ) (i : ℕ) → i < most_tasks → get_or (jobs_in most_tasks (drop rows_at image)) i no_job ≡ job_in (drop (rows_at + row_size * i) image)
row_of image i h = job_in_lem most_tasks (drop rows_at image) i h ∙ ap job_in (drop-drop (row_size * i) rows_at image)

pub length_rows : (jobs : List Job) → length (row_cells jobs) ≡ row_size * length jobs
unfolding row_cells
length_rows [] = refl
length_rows (job ∷ jobs) = omega (arith, length_rows jobs)

pub rows_append : (xs ys : List Job) → row_cells (xs ++ ys) ≡ row_cells xs ++ row_cells ys
unfolding row_cells
rows_append [] ys = refl
rows_append (x ∷ xs) ys = ap (λ l. job_cells x ++ l) (rows_append xs ys) ∙ sym (append_assoc (job_cells x) (row_cells xs) (row_cells ys))

-- The saved deadlines of the row that a list of numbers starts with.
abbrev pub saved_of : List ℕ → List ℕ
saved_of xs = get_or xs saved_at 0 ∷ get_or xs (saved_at + 1) 0 ∷ get_or xs (saved_at + 2) 0 ∷ get_or xs (saved_at + 3) 0 ∷ []

pub saved_in : (xs : List ℕ) (k : ℕ) → k < most_held → get_or (saved_of xs) k 0 ≡ get_or xs (saved_at + k) 0
saved_in xs zero h = refl
saved_in xs (suc zero) h = refl
saved_in xs (suc (suc zero)) h = refl
saved_in xs (suc (suc (suc zero))) h = refl
saved_in xs (suc (suc (suc (suc k)))) h = absurd (omega arith)

-- One row more.
pub rows_more : (jobs : List Job) (i : ℕ) → i < length jobs → row_cells (take (suc i) jobs) ≡ row_cells (take i jobs) ++ job_cells (get_or jobs i no_job)
unfolding row_cells
rows_more jobs i h = ap row_cells (take-suc jobs i no_job h) ∙ rows_append (take i jobs) (get_or jobs i no_job ∷ [])
    ∙ ap (λ l. row_cells (take i jobs) ++ l) (append-nil (job_cells (get_or jobs i no_job)))

-- An image whose first i rows are written.
abbrev pub rows_put : List ℕ → List Job → ℕ → List ℕ
rows_put image jobs i = take rows_at image ++ (row_cells (take i jobs) ++ drop (rows_at + row_size * i) image)

pub rows_none : (image : List ℕ) (jobs : List Job) → image ≡ rows_put image jobs 0
unfolding row_cells
rows_none image jobs = sym (take-append-drop rows_at image)

pub length_front : (image : List ℕ) (jobs : List Job) (i : ℕ) → length image ≡ image_size → length jobs ≡ most_tasks → i ≤ most_tasks →
    length (take rows_at image ++ row_cells (take i jobs)) ≡ rows_at + row_size * i
length_front image jobs i e f h =
    length-append (take rows_at image) (row_cells (take i jobs))
    ∙ omega (arith, length-take-le rows_at image (omega arith), length_rows (take i jobs), length-take-le i jobs (omega arith))

-- A row's numbers put behind the first n.
pub cells_more : (front back cells : List ℕ) (n : ℕ) → length front ≡ n →
    take n (front ++ back) ++ (cells ++ drop (n + row_size) (front ++ back)) ≡ (front ++ cells) ++ drop row_size back
cells_more front back cells n e =
    ap (λ l. l ++ (cells ++ drop (n + row_size) (front ++ back))) (take_at front back n e)
    ∙ ap (λ l. front ++ (cells ++ l)) (behind_drop front back n row_size e)
    ∙ sym (append_assoc front cells (drop row_size back))

-- The next row is written.
pub row_more : (image : List ℕ) (jobs : List Job) (i : ℕ) → length image ≡ image_size → length jobs ≡ most_tasks → i < most_tasks →
    take (rows_at + row_size * i) (rows_put image jobs i)
    ++ (job_cells (get_or jobs i no_job) ++ drop (rows_at + row_size * i + row_size) (rows_put image jobs i))
    ≡ rows_put image jobs (i + 1)
row_more image jobs i e f h =
    let start = take rows_at image in
    let cells = job_cells (get_or jobs i no_job) in
    let n = rows_at + row_size * i in
    let next : n + row_size ≡ rows_at + row_size * suc i = omega arith in
    ap (λ l. take n l ++ (cells ++ drop (n + row_size) l)) (sym (append_assoc start (row_cells (take i jobs)) (drop n image)))
    ∙ cells_more (start ++ row_cells (take i jobs)) (drop n image) cells n (length_front image jobs i e f (omega arith))
    ∙ ap (λ l. l ++ drop row_size (drop n image)) (append_assoc start (row_cells (take i jobs)) cells ∙ ap (λ l. start ++ l) (sym (rows_more jobs i (omega arith))))
    ∙ append_assoc start (row_cells (take (suc i) jobs)) (drop row_size (drop n image))
    ∙ ap (λ l. start ++ (row_cells (take (suc i) jobs) ++ l)) (drop-drop row_size n image ∙ ap (λ k. drop k image) next)
    ∙ ap (rows_put image jobs) (sym (add-one i))

-- All are written, and nothing stands behind them.
pub rows_all : (image : List ℕ) (jobs : List Job) → length image ≡ image_size → length jobs ≡ most_tasks → rows_put image jobs most_tasks ≡ take rows_at image ++ row_cells jobs
rows_all image jobs e f =
    ap (λ l. take rows_at image ++ (row_cells l ++ drop image_size image)) (take_all most_tasks jobs (omega arith))
    ∙ ap (λ l. take rows_at image ++ (row_cells jobs ++ l)) (drop_of_length-le image {i = image_size} (omega arith))
    ∙ ap (λ l. take rows_at image ++ l) (append-nil (row_cells jobs))

-- What is lent of an image from a place on is all of it from there, and a row is put at its start.
pub lent_from : (image : List ℕ) (at : ℕ) → length image ≡ image_size → take (image_size - at) (drop at image) ≡ drop at image
lent_from image at e = take_all (image_size - at) (drop at image) (omega (arith, length-drop at image))

pub put_behind : (image row cells : List ℕ) (at : ℕ) → length image ≡ image_size → row ≡ cells ++ drop row_size (take (image_size - at) (drop at image)) →
    take at image ++ (row ++ drop (image_size - at) (drop at image)) ≡ take at image ++ (cells ++ drop (at + row_size) image)
put_behind image row cells at e put =
    let none : drop (image_size - at) (drop at image) ≡ [] = drop_of_length-le (drop at image) {i = image_size - at} (omega (arith, length-drop at image)) in
    ap (λ l. take at image ++ (row ++ l)) none
    ∙ ap (λ l. take at image ++ l) (append-nil row ∙ put)
    ∙ ap (λ l. take at image ++ (cells ++ l)) (ap (drop row_size) (lent_from image at e) ∙ drop-drop row_size at image)

-- ---- what stands at the end of each loop

-- The words of the numbers before the k-th are in place; the two of the k-th are stored.
abbrev pub words_read : List ℕ → List ℕ → ℕ → List ℕ
words_read image before k = take (2 * k) (unpacked (take length_at image)) ++ drop (2 * k) before

length_words : (image : List ℕ) → length image ≡ image_size → length (unpacked (take length_at image)) ≡ room
length_words image whole = length_unpacked (take length_at image) ∙ omega (arith, length-take-le length_at image (omega arith))

pub word_more : (image before words : List ℕ) (k x : ℕ) → length image ≡ image_size → length before ≡ room → k < length_at → x ≡ get_or (take length_at image) k 0 →
    words ≡ words_read image before k → set (set words (2 * k) (low x)) (2 * k + 1) (high x) ≡ words_read image before (k + 1)
word_more image before words k x whole e h is done =
    ap (λ l. set (set l (2 * k) (low x)) (2 * k + 1) (high x)) done
    ∙ fill_two before (unpacked (take length_at image)) k (low x) (high x) (omega arith) (omega (arith, length_words image whole))
    (ap low is ∙ sym (first_word (take length_at image) k))
    (ap high is ∙ sym (second_word (take length_at image) k))

pub words_all : (image before words : List ℕ) (k : ℕ) → length image ≡ image_size → length before ≡ room → length_at ≤ k → words ≡ words_read image before k →
    words ≡ unpacked (take length_at image)
words_all image before words k whole e h done =
    let all = unpacked (take length_at image) in
    done
    ∙ ap (λ l. l ++ drop (2 * k) before) (take_all (2 * k) all (omega (arith, length_words image whole)))
    ∙ ap (λ l. all ++ l) (drop_of_length-le before {i = 2 * k} (omega arith))
    ∙ append-nil all

-- What changes with an event: four stores, and the rows.
pub kept_put : (image l : List ℕ) (kept : Kept) → length image ≡ image_size →
    l ≡ take rows_at (set (set (set (set image clock_at kept.clock) count_at kept.count) ready_at kept.ready) had_at kept.had) ++ row_cells kept.rows →
    l ≡ take clock_at image ++ kept_cells kept
kept_put image l kept e done =
    let four = kept.clock ∷ kept.count ∷ kept.ready ∷ kept.had ∷ [] in
    let front : length (take clock_at image ++ four) ≡ rows_at =
    length-append (take clock_at image) four ∙ omega (arith, length-take-le clock_at image (omega arith)) in
    done
    ∙ ap (λ m. take rows_at m ++ row_cells kept.rows) (sets-eq four image clock_at (omega arith))
    ∙ ap (λ m. m ++ row_cells kept.rows) (take_at (take clock_at image ++ four) (drop rows_at image) rows_at front)
    ∙ append_assoc (take clock_at image) four (row_cells kept.rows)

-- The whole state: the words, the length, and what changes with an event.
pub state_put : (image pairs l : List ℕ) (s : State) → length image ≡ image_size → length pairs ≡ length (take length_at image) → pairs ≡ packed s.words →
    l ≡ take clock_at (set (pairs ++ drop length_at image) length_at s.length) ++ kept_cells s.kept → l ≡ encode s
unfolding encode
state_put image pairs l s e size words done =
    let m = pairs ++ drop length_at image in
    let front : length pairs ≡ length_at = size ∙ length-take-le length_at image (omega arith) in
    let long : length m ≡ image_size = length-append pairs (drop length_at image) ∙ omega (arith, length-drop length_at image) in
    done
    ∙ ap (λ x. x ++ kept_cells s.kept) (take-suc-set m length_at s.length (omega arith))
    ∙ ap (λ x. x ++ (s.length ∷ []) ++ kept_cells s.kept) (take_at pairs (drop length_at image) length_at front ∙ words)
    ∙ append_snoc (packed s.words) s.length (kept_cells s.kept)
