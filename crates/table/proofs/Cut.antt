-- What lies behind the longest list that passes changes nothing: the check of a list's first `room` + 1 words says what the check of all of them
-- says (`check_cut`). The idea: two lists that agree up to some place are read alike up to that place, one word, one step, one plan, one task and
-- the tasks, and no reading of the check goes behind `room`. Assumes nothing.
use Prim.Native.Nat.{ℕ, zero, suc, ◌+◌, ◌*◌, ◌≤◌, ◌<◌}
use mathlib.Core.Path.{◌≡◌, refl, ap, ◌∙◌}
use mathlib.Core.Bool.{Bool, true, false}
use mathlib.Core.List.{List, [], ◌∷◌}
use native.Mathlib.Omega.{arith}
use lib.Dec.{ltb}
use lib.ListN.{length, get_or, take}
use lib.Seq.{get_or-take, length-take-le, take_all}
use borrow.Author.Tests.{lt-ltb, le-leb, ltb-true, ltb-false}
use Rattle.numbers.specs.Answers.{RANGE, COUNT}
use Rattle.table.specs.Limits.{most_tasks, most_resources, most_ticks, most_steps, room, at_plan, step_size, at_resource, at_length}
use Rattle.table.specs.Table.{Step, Task, Table}
use Rattle.table.specs.Held.{Section, held_after}
use Rattle.table.specs.Spare.{spare_after}
use Rattle.table.specs.Check.{Read, got, bad, ◌and_then◌, word_in, step_in, plan_in, task_in, tasks_in, table_read, ended, check_of}
use Rattle.table.specs.Said.{finding_said, check_said}
use Rattle.table.proofs.Passed.{both, got_place, word_got, step_got, task_got, tasks_got, after_plan, after_s, after_c, after_d, after_t}
use Rattle.table.proofs.Laws.{after_tasks, after_m, after_n}

-- Two readings in a row are the same where the first are, and the second wherever the first leads.
then_same : {A B : Type 0} (read read' : Read A) (f g : A → ℕ → Read B) → read ≡ read' →
    ((a : A) (next : ℕ) → read' ≡ got a next → f a next ≡ g a next) → (read and_then f) ≡ (read' and_then g)
then_same {A} {B} read read' f g e h = ap (λ (r : Read A). r and_then f) e ∙ go read' h
  where
    go : (r : Read A) → ((a : A) (next : ℕ) → r ≡ got a next → f a next ≡ g a next) → (r and_then f) ≡ (r and_then g)
    go (got a next) h = h a next refl
    go (bad number place) h = refl

-- Two lists that agree below k, and reach so far.
module _ (k : ℕ) (ws vs : List ℕ) (long : k ≤ length ws) (far : k ≤ length vs) (agree : (i : ℕ) → i < k → get_or ws i 0 ≡ get_or vs i 0) where
  word_same : (number least most at : ℕ) → at < k → word_in number least most ws at ≡ word_in number least most vs at
  unfolding word_in
  word_same number least most at h = rw (lt-ltb at (length ws) (omega arith), lt-ltb at (length vs) (omega arith), agree at h)

  step_same : (m c : ℕ) (held : List Section) (spare : List ℕ) (at : ℕ) → at + step_size ≤ k → step_in m c held spare ws at ≡ step_in m c held spare vs at
  unfolding step_in
  step_same m c held spare at h = rw (
    le-leb (at + step_size) (length ws) (omega arith),
    le-leb (at + step_size) (length vs) (omega arith),
    agree at (omega arith),
    agree (at + at_resource) (omega arith),
    agree (at + at_length) (omega arith),
  )

  plan_same : (left m c : ℕ) (held : List Section) (spare : List ℕ) (at : ℕ) → at + step_size * left ≤ k →
      plan_in left m c held spare ws at ≡ plan_in left m c held spare vs at
  unfolding plan_in
  plan_same zero m c held spare at h = refl
  plan_same (suc left) m c held spare at h =
      then_same (step_in m c held spare ws at) (step_in m c held spare vs at)
      (λ (step : Step) (next : ℕ). plan_in left m c (held_after step held) (spare_after step spare) ws next and_then λ (steps : List Step) (end : ℕ). got (step ∷ steps) end)
      (λ (step : Step) (next : ℕ). plan_in left m c (held_after step held) (spare_after step spare) vs next and_then λ (steps : List Step) (end : ℕ). got (step ∷ steps) end)
      (step_same m c held spare at (omega arith))
      (λ step next e. ap (λ (r : Read (List Step)). r and_then λ (steps : List Step) (end : ℕ). got (step ∷ steps) end)
      (plan_same left m c (held_after step held) (spare_after step spare) next (omega (arith, (step_got m c held spare vs at e).place))))

  task_same : (m at : ℕ) → at + (at_plan + most_steps * step_size) ≤ k → task_in m ws at ≡ task_in m vs at
  unfolding task_in
  task_same m at h =
      then_same (word_in RANGE 1 most_ticks ws at) (word_in RANGE 1 most_ticks vs at) (after_t m ws) (after_t m vs) (word_same RANGE 1 most_ticks at (omega arith))
      (λ t at₁ e₁. let t_got = word_got RANGE 1 most_ticks vs at e₁ in
      then_same (word_in RANGE 1 most_ticks ws at₁) (word_in RANGE 1 most_ticks vs at₁) (after_d m ws t) (after_d m vs t) (word_same RANGE 1 most_ticks at₁ (omega (arith, t_got.place)))
      (λ d at₂ e₂. let d_got = word_got RANGE 1 most_ticks vs at₁ e₂ in
      then_same (word_in RANGE 1 most_ticks ws at₂) (word_in RANGE 1 most_ticks vs at₂) (after_c m ws t d) (after_c m vs t d) (word_same RANGE 1 most_ticks at₂ (omega (arith, t_got.place, d_got.place)))
      (λ c at₃ e₃. let c_got = word_got RANGE 1 most_ticks vs at₂ e₃ in
      then_same (word_in COUNT 0 most_steps ws at₃) (word_in COUNT 0 most_steps vs at₃) (after_s m ws t d c) (after_s m vs t d c) (word_same COUNT 0 most_steps at₃ (omega (arith, t_got.place, d_got.place, c_got.place)))
      (λ s at₄ e₄. let s_got = word_got COUNT 0 most_steps vs at₃ e₄ in
      ap (λ (r : Read (List Step)). r and_then after_plan t d c)
      (plan_same s m c [] (c ∷ []) at₄ (omega (arith, t_got.place, d_got.place, c_got.place, s_got.place, s_got.high)))))))

  tasks_same : (left m at : ℕ) → at + left * (at_plan + most_steps * step_size) ≤ k → tasks_in left m ws at ≡ tasks_in left m vs at
  unfolding tasks_in
  tasks_same zero m at h = refl
  tasks_same (suc left) m at h =
      then_same (task_in m ws at) (task_in m vs at)
      (λ (task : Task) (next : ℕ). tasks_in left m ws next and_then λ (tasks : List Task) (end : ℕ). got (task ∷ tasks) end)
      (λ (task : Task) (next : ℕ). tasks_in left m vs next and_then λ (tasks : List Task) (end : ℕ). got (task ∷ tasks) end)
      (task_same m at (omega arith))
      (λ task next e. ap (λ (r : Read (List Task)). r and_then λ (tasks : List Task) (end : ℕ). got (task ∷ tasks) end)
      (tasks_same left m next (omega (arith, (task_got m vs at e).most))))

  table_same : room ≤ k → table_read ws ≡ table_read vs
  table_same h =
      then_same (word_in COUNT 1 most_tasks ws 0) (word_in COUNT 1 most_tasks vs 0) (after_n ws) (after_n vs) (word_same COUNT 1 most_tasks 0 (omega arith))
      (λ n at₁ e₁. let n_got = word_got COUNT 1 most_tasks vs 0 e₁ in
      then_same (word_in COUNT 0 most_resources ws at₁) (word_in COUNT 0 most_resources vs at₁) (after_m ws n) (after_m vs n) (word_same COUNT 0 most_resources at₁ (omega (arith, n_got.place)))
      (λ m at₂ e₂. let m_got = word_got COUNT 0 most_resources vs at₁ e₂ in
      ap (λ (r : Read (List Task)). r and_then after_tasks m)
      (tasks_same n m at₂ (omega (arith, n_got.place, n_got.high, m_got.place)))))

-- No table is read behind `room`.
table_most : (ws : List ℕ) {t : Table} {end : ℕ} → table_read ws ≡ got t end → end ≤ room
table_most ws {t} {end} e =
    both (word_in COUNT 1 most_tasks ws 0) (after_n ws) e
    (λ n at₁ e₁ f₁. both (word_in COUNT 0 most_resources ws at₁) (after_m ws n) f₁
    (λ m at₂ e₂ f₂. both (tasks_in n m ws at₂) (after_tasks m) f₂
    (λ tasks last e₃ f₃.
    let n_got = word_got COUNT 1 most_tasks ws 0 e₁ in
    let m_got = word_got COUNT 0 most_resources ws at₁ e₂ in
    let same : last ≡ end = got_place f₃ in
    omega (arith, same, n_got.place, n_got.high, m_got.place, (tasks_got n m ws at₂ e₃).most))))

pub read_cut : (ws : List ℕ) → check_of (take (room + 1) ws) ≡ check_of ws
unfolding check_of
read_cut ws = go (ltb room (length ws)) refl
  where
    ends : room + 1 ≤ length ws → length (take (room + 1) ws) ≡ room + 1 → (read : Read Table) → table_read ws ≡ read → ended (take (room + 1) ws) read ≡ ended ws read
    ends h l (got t end) e =
        let most : end ≤ room = table_most ws e in
        rw (lt-ltb end (length (take (room + 1) ws)) (omega arith), lt-ltb end (length ws) (omega arith))
    ends h l (bad number place) e = refl

    go : (b : Bool) → ltb room (length ws) ≡ b → ended (take (room + 1) ws) (table_read (take (room + 1) ws)) ≡ ended ws (table_read ws)
    go true q =
        let h : room + 1 ≤ length ws = omega (arith, ltb-true room (length ws) q) in
        let l : length (take (room + 1) ws) ≡ room + 1 = length-take-le (room + 1) ws h in
        ap (ended (take (room + 1) ws))
        (table_same (room + 1) (take (room + 1) ws) ws (omega arith) h (λ i below. get_or-take (room + 1) ws i 0 below) (omega arith))
        ∙ ends h l (table_read ws) refl
    go false q =
        let all : take (room + 1) ws ≡ ws = take_all (room + 1) ws (omega (arith, ltb-false room (length ws) q)) in
        ap (λ (x : List ℕ). ended x (table_read x)) all

-- For a list that was cut off behind the longest that passes.
pub check_cut : (ws : List ℕ) → check_said (take (room + 1) ws) ≡ check_said ws
check_cut ws = ap finding_said (read_cut ws)
