-- The laws of the check: it accepts exactly the words of the valid tables (`checked_valid`, `valid_checked`), the words can be written back from
-- the table (`words_back`), and the map of a sound list reads that list's own table (`table_at_lem`).
-- Assumes nothing.
use mathlib.Core.Path.{◌≡◌, refl, sym, ap, ap₂, ◌∙◌, subst, subst₂}
use mathlib.Core.Logic.{◌↔◌}
use mathlib.Core.Bool.{Bool, true, false, cond}
use mathlib.Core.List.{List, [], ◌∷◌, ◌++◌, append-nil}
use Prim.Native.Nat.{ℕ, ◌+◌, ◌*◌, ◌-◌, ◌≤◌, min, zero-le}
use native.Mathlib.Nat.{min-eq_left}
use native.Mathlib.Omega.{arith}
use lib.Dec.{ltb}
use lib.ListN.{length, get_or, take, drop, length-append, length-drop}
use lib.Seq.{drop-length, take-append_seam}
use borrow.Author.Tests.{ltb-false, le-ltb}
use Rattle.table.specs.Limits.{most_tasks, most_resources, most_steps, room, at_tasks, at_plan, step_size}
use Rattle.table.specs.Table.{Task, Table, tasks_of}
use Rattle.table.specs.Check.{Read, got, bad, ◌and_then◌, word_in, tasks_in, table_read, Checked, sound, refused, ended, check_of}
use Rattle.numbers.specs.Answers.{COUNT, SHORT}
use Rattle.table.specs.Valid.{Valid}
use Rattle.table.specs.Map.{tasks_at, table_at, starts_from, padded, map_from, map_of}
use Rattle.table.specs.Words.{tasks_words, words_of}
use Rattle.numbers.proofs.Tests.{never}
use Rattle.table.proofs.Passed.{Word, word_got, TasksGot, tasks_got, both, got_value, got_place}
use Rattle.table.proofs.Written.{Written, then_written, done, word_written, tasks_written}
use Rattle.table.proofs.Padded.{tasks_padded}

-- ---- what a list that passed says

-- A table that was read up to a place.
pub record Passed (ws : List ℕ) (t : Table) (end : ℕ) : Type 0 where
  pub count : Word 1 most_tasks ws 0 (tasks_of t) 1
  pub resources : Word 0 most_resources ws 1 t.resources at_tasks
  pub tasks : TasksGot (tasks_of t) t.resources ws at_tasks t.tasks end

-- What is read to its end.
at_end : (P : Type 0) (ws : List ℕ) (read : Read Table) {t : Table} → ended ws read ≡ sound t →
    ((end : ℕ) → read ≡ got t end → length ws ≤ end → P) → P
at_end P ws (got table end) {t} e found = go (ltb end (length ws)) refl e
  where
    go : (b : Bool) → ltb end (length ws) ≡ b → cond b (refused SHORT end) (sound table) ≡ sound t → P
    go true q x = never (cc)
    go false q x =
        let same : table ≡ t = cc in
        found end (ap (λ (s : Table). got s end) same) (ltb-false end (length ws) q)
at_end P ws (bad number place) e found = never (cc)

-- The rest of the check behind each read.
abbrev pub after_tasks : ℕ → List Task → ℕ → Read Table
after_tasks m tasks end = got (record { resources = m; tasks = tasks }) end

abbrev pub after_m : List ℕ → ℕ → ℕ → ℕ → Read Table
after_m ws n m at₂ = tasks_in n m ws at₂ and_then after_tasks m

abbrev pub after_n : List ℕ → ℕ → ℕ → Read Table
after_n ws n at₁ = word_in COUNT 0 most_resources ws at₁ and_then after_m ws n

-- From the words' places on, with the places written out.
passed_from : {ws : List ℕ} {t : Table} {n at₁ m at₂ end : ℕ} → Word 1 most_tasks ws 0 n at₁ → Word 0 most_resources ws at₁ m at₂ →
    TasksGot n m ws at₂ t.tasks end → m ≡ t.resources → Passed ws t end
passed_from {ws} {t} {n} {at₁} {m} {at₂} {end} wn wm ts same =
    let n_same : n ≡ tasks_of t = sym ts.count in
    let first : at₁ ≡ 1 = wn.place in
    let second : at₂ ≡ at_tasks = omega (arith, wn.place, wm.place) in
    let named : TasksGot (tasks_of t) t.resources ws at₂ t.tasks end = subst₂ (λ (x y : ℕ). TasksGot x y ws at₂ t.tasks end) n_same same ts in
    let placed : Word 0 most_resources ws 1 m at_tasks = subst₂ (λ (x y : ℕ). Word 0 most_resources ws x m y) first second wm in
    record {
      count = subst₂ (λ (x y : ℕ). Word 1 most_tasks ws 0 x y) n_same first wn;
      resources = subst (λ (x : ℕ). Word 0 most_resources ws 1 x at_tasks) same placed;
      tasks = subst (λ (x : ℕ). TasksGot (tasks_of t) t.resources ws x t.tasks end) second named;
    }

pub table_passed : (ws : List ℕ) (t : Table) (end : ℕ) → table_read ws ≡ got t end → Passed ws t end
table_passed ws t end e =
    both (word_in COUNT 1 most_tasks ws 0) (after_n ws) e
    (λ n at₁ n-got e₁. both (word_in COUNT 0 most_resources ws at₁) (after_m ws n) e₁
    (λ m at₂ m-got e₂. both (tasks_in n m ws at₂) (after_tasks m) e₂
    (λ tasks at₃ t-got e₃.
    let same : record { resources = m; tasks = tasks } ≡ t = got_value e₃ in
    let read : TasksGot n m ws at₂ t.tasks at₃ = subst (λ (s : Table). TasksGot n m ws at₂ s.tasks at₃) same (tasks_got n m ws at₂ t-got) in
    passed_from (word_got COUNT 1 most_tasks ws 0 n-got) (word_got COUNT 0 most_resources ws at₁ m-got)
    (subst (λ (x : ℕ). TasksGot n m ws at₂ t.tasks x) (got_place e₃) read) (ap (λ (s : Table). s.resources) same))))

pub passed : (ws : List ℕ) (t : Table) → check_of ws ≡ sound t → Passed ws t (length ws)
unfolding check_of
passed ws t e =
    at_end (Passed ws t (length ws)) ws (table_read ws) e
    (λ end e₀ last.
    let p : Passed ws t end = table_passed ws t end e₀ in
    let inside : end ≤ length ws = p.tasks.there p.resources.there in
    let same : end ≡ length ws = omega arith in
    subst (Passed ws t) same p)

-- ---- the laws of a table that was read

-- It is within document 01's limits.
pub passed_valid : {ws : List ℕ} {t : Table} {end : ℕ} → Passed ws t end → Valid t
passed_valid p = record {
  tasks_least = p.count.low;
  tasks_most = p.count.high;
  resources_most = p.resources.high;
  each = p.tasks.each;
}

-- Its words are the words that were read.
words_read_lem : {ws : List ℕ} {t : Table} {end : ℕ} → Passed ws t end → ws ≡ words_of t ++ drop end ws
unfolding words_of
words_read_lem {ws} {t} {end} p =
    p.count.words
    ∙ ap {B = List ℕ} (λ (x : List ℕ). tasks_of t ∷ x) (p.resources.words ∙ ap {B = List ℕ} (λ (x : List ℕ). t.resources ∷ x) p.tasks.words)

pub passed_words : {ws : List ℕ} {t : Table} {end : ℕ} → Passed ws t end → take end ws ≡ words_of t
passed_words {ws} {t} {end} p =
    let inside : end ≤ length ws = p.tasks.there p.resources.there in
    let all : length ws ≡ length (words_of t) + (length ws - end) =
    ap length (words_read_lem p) ∙ length-append (words_of t) (drop end ws) ∙ ap (λ (n : ℕ). length (words_of t) + n) (length-drop end ws)
    in
    let long : end ≡ length (words_of t) = omega arith in
    ap₂ (λ (n : ℕ) (x : List ℕ). take n x) long (words_read_lem p) ∙ take-append_seam (words_of t) (drop end ws)

-- ---- the laws of a list that passed

-- What the check accepts is within document 01's limits.
pub checked_valid : (ws : List ℕ) (t : Table) → check_of ws ≡ sound t → Valid t
checked_valid ws t e = passed_valid (passed ws t e)

-- Words 0 and 1 are the numbers of tasks and of resources.
pub sound_words : (ws : List ℕ) (t : Table) → check_of ws ≡ sound t → (get_or ws 0 0 ≡ tasks_of t) × (get_or ws 1 0 ≡ t.resources)
sound_words ws t e =
    let p : Passed ws t (length ws) = passed ws t e in
    (sym p.count.value, sym p.resources.value)

-- A sound list has at most `room` words.
pub sound_length : (ws : List ℕ) (t : Table) → check_of ws ≡ sound t → length ws ≤ room
sound_length ws t e =
    let p : Passed ws t (length ws) = passed ws t e in
    let few : tasks_of t ≤ most_tasks = p.count.high in
    let last : length ws ≤ at_tasks + tasks_of t * (at_plan + most_steps * step_size) = p.tasks.most in
    omega arith

-- The words can be written back from the table: the table loses nothing of them.
pub words_back : (ws : List ℕ) (t : Table) → check_of ws ≡ sound t → words_of t ≡ ws
words_back ws t e =
    sym (words_read_lem (passed ws t e) ∙ ap (λ (x : List ℕ). words_of t ++ x) (drop-length ws) ∙ append-nil (words_of t))

-- The map of a sound list.
pub map_sound : (ws : List ℕ) (t : Table) → check_of ws ≡ sound t → map_of ws ≡ map_from (sound t) ws
unfolding map_of
map_sound ws t e = ap (λ (c : Checked). map_from c ws) e

-- The map of a sound list reads that list's own table.
pub table_at_lem : (ws : List ℕ) (t : Table) → check_of ws ≡ sound t → table_at ws (map_of ws) ≡ t
unfolding table_at
table_at_lem ws t e =
    let p : Passed ws t (length ws) = passed ws t e in
    let few : tasks_of t ≤ most_tasks = p.count.high in
    let starts = starts_from (tasks_of t) ws at_tasks in
    let whole : min (tasks_of t) most_tasks ≡ tasks_of t = min-eq_left few in
    let same : tasks_at (min (tasks_of t) most_tasks) 0 ws (padded most_tasks starts) ≡ t.tasks =
    ap (λ (n : ℕ). tasks_at n 0 ws (padded most_tasks starts)) whole ∙ tasks_padded (tasks_of t) 0 most_tasks ws starts (omega arith)
    ∙ sym p.tasks.value
    in
    ap (table_at ws) (map_sound ws t e) ∙ (λ i. record { resources = t.resources; tasks = same i })

-- ---- the words of a valid table pass

-- Nothing is left behind the last task.
none_left : (ws : List ℕ) (end : ℕ) → drop end ws ≡ [] → length ws ≤ end
none_left ws end e =
    let none : length ws - end ≡ 0 = sym (length-drop end ws) ∙ ap length e in
    omega arith

end_sound : (ws : List ℕ) (t : Table) {read : Read Table} → Written read t ws [] → ended ws read ≡ sound t
end_sound ws t w = rw (w.reads, le-ltb w.end (length ws) (none_left ws w.end w.left))

-- The check accepts the words of every valid table, and finds that table.
pub valid_checked : (t : Table) → Valid t → check_of (words_of t) ≡ sound t
unfolding check_of words_of
valid_checked t v =
    end_sound ws t
    (then_written (after_n ws) (word_written COUNT 1 most_tasks ws 0 refl v.tasks_least v.tasks_most)
    (λ at₁ e₁. then_written (after_m ws (tasks_of t)) (word_written COUNT 0 most_resources ws at₁ e₁ zero-le v.resources_most)
    (λ at₂ e₂. then_written (after_tasks t.resources)
    (tasks_written t.resources t.tasks ws at₂ v.each (e₂ ∙ sym (append-nil (tasks_words t.tasks))))
    (λ end e₃. done t ws end e₃))))
  where
    ws : List ℕ
    ws = words_of t

-- Both ways at once: a list passes as t exactly when t is valid and the list is its words. So no two lists pass as the same table.
pub sound_exactly : (ws : List ℕ) (t : Table) → check_of ws ≡ sound t ↔ (Valid t × (words_of t ≡ ws))
sound_exactly ws t =
    (λ e. (checked_valid ws t e, words_back ws t e), λ p. ap check_of (sym p.1) ∙ valid_checked t p.0)
