-- Every refusal of the check has its ground (`refused_breaks`). The idea: a reading that is refused was refused at its first part, or behind it; so a law
-- for one word, one step, one plan, one task and the tasks, each from the one before. Assumes nothing.
use Prim.Native.Nat.{ℕ, zero, suc, ◌+◌, ◌<◌}
use mathlib.Core.Path.{◌≡◌, refl, sym, ap, ap₂, subst, subst₂, ◌∙◌}
use mathlib.Core.Bool.{Bool, true, false, cond, ◌&&◌}
use mathlib.Core.List.{List, [], ◌∷◌}
use native.Mathlib.Omega.{arith}
use lib.Dec.{ltb, leb}
use lib.ListN.{length, get_or}
use borrow.Author.Tests.{ltb-true, leb-true, leb-false}
use Rattle.numbers.specs.Answers.{SHORT, COUNT, RANGE, STEP, NEST, CROWDED}
use Rattle.numbers.proofs.Tests.{never}
use Rattle.table.specs.Limits.{most_tasks, most_resources, most_ticks, most_steps, at_tasks, at_period, at_deadline, at_cost, at_steps, at_plan, step_size, at_resource, at_length}
use Rattle.table.specs.Table.{Step, Task, Table}
use Rattle.table.specs.Held.{Section, held_after}
use Rattle.table.specs.Spare.{spare_after, crowded}
use Rattle.table.specs.Claims.{Level, unclaimed, levels_after}
use Rattle.table.specs.Check.{Read, got, bad, ◌and_then◌, word_in, broken_step, broken_nest, nothing_held, step_said, step_in, plan_in, task_in, tasks_in, table_read, sound, refused, ended, check_of}
use Rattle.table.specs.Broken as breaks
use Rattle.table.specs.Broken.{Broken, Outside, task_start, step_start, n_in, m_in, cost_in, steps_in, held_before, levels_before}
use Rattle.table.proofs.Passed.{word_got, step_got, task_got, after_plan, after_s, after_c, after_d, after_t}
use Rattle.table.proofs.Laws.{after_tasks, after_m, after_n, table_passed, passed_valid, passed_words}
use Rattle.table.proofs.Laid.{held_none, held_more, levels_none, levels_more}
use Rattle.table.proofs.Claimed.{Balanced, balanced_first, balanced_after, crowded_over}

-- The first part of a reading is refused, or what comes behind it.
either : {A B P : Type 0} (read : Read A) (then : A → ℕ → Read B) {number place : ℕ} → (read and_then then) ≡ bad number place → (read ≡ bad number place → P) →
    ((a : A) (next : ℕ) → read ≡ got a next → then a next ≡ bad number place → P) → P
either (got a next) then e stop go = go a next refl e
either (bad n p) then {number} {place} e stop go =
    let i : n ≡ number = cc in
    let j : p ≡ place = cc in
    stop (ap₂ (λ (x y : ℕ). bad x y) i j)

module _ (ws : List ℕ) {number place : ℕ} where
  names : {n p : ℕ} {A : Type 0} → Broken ws n p → ◌≡◌ {A = Read A} (bad n p) (bad number place) → Broken ws number place
  names {n} {p} b e =
      let i : n ≡ number = cc in
      let j : p ≡ place = cc in
      subst₂ (Broken ws) i j b

-- ---- one word

word_breaks : (by least most : ℕ) (ws : List ℕ) (at : ℕ) {number place : ℕ} → word_in by least most ws at ≡ bad number place →
    (Outside least most ws at → Broken ws by at) → Broken ws number place
unfolding word_in
word_breaks by least most ws at {number} {place} e out = go (ltb at (length ws)) refl (leb least (get_or ws at 0)) refl (leb (get_or ws at 0) most) refl e
  where
    go : (a : Bool) → ltb at (length ws) ≡ a → (b : Bool) → leb least (get_or ws at 0) ≡ b → (d : Bool) → leb (get_or ws at 0) most ≡ d →
        cond a (cond (b && d) (got (get_or ws at 0) (at + 1)) (bad by at)) (bad SHORT (length ws)) ≡ bad number place → Broken ws number place
    go false x b y d z e = names ws breaks.missing e
    go true x false y d z e = names ws (out (breaks.below (ltb-true at (length ws) x) (leb-false least (get_or ws at 0) y))) e
    go true x true y false z e = names ws (out (breaks.above (ltb-true at (length ws) x) (leb-false (get_or ws at 0) most z))) e
    go true x true y true z e = never (cc)

-- ---- a task

module _ (ws : List ℕ) (i : ℕ) (there : i < n_in ws) where
  step_breaks : (k : ℕ) → k < steps_in ws i → (spare : List ℕ) → Balanced (levels_before ws i k) spare → {number place : ℕ} →
      step_in (m_in ws) (cost_in ws i) (held_before ws i k) spare ws (step_start ws i k) ≡ bad number place → Broken ws number place
  unfolding step_in
  step_breaks k h spare balanced {number} {place} e =
      go (leb (at + step_size) (length ws)) refl (broken_step (m_in ws) (cost_in ws i) kind r l) refl (broken_nest (step_said kind r l) (held_before ws i k)) refl
      (crowded (step_said kind r l) spare) refl e
    where
      at : ℕ
      at = step_start ws i k

      kind : ℕ
      kind = get_or ws at 0

      r : ℕ
      r = get_or ws (at + at_resource) 0

      l : ℕ
      l = get_or ws (at + at_length) 0

      lies : leb (at + step_size) (length ws) ≡ true → breaks.StepThere ws i k
      lies x = record { task = there; step = h; there = leb-true (at + step_size) (length ws) x }

      go : (a : Bool) → leb (at + step_size) (length ws) ≡ a → (b : Bool) → broken_step (m_in ws) (cost_in ws i) kind r l ≡ b → (d : Bool) →
          broken_nest (step_said kind r l) (held_before ws i k) ≡ d → (f : Bool) → crowded (step_said kind r l) spare ≡ f →
          cond a (cond b (bad STEP at) (cond d (bad NEST at) (cond f (bad CROWDED at) (got (step_said kind r l) (at + step_size))))) (bad SHORT (length ws)) ≡ bad number place →
          Broken ws number place
      go false x b y d z f w e = names ws breaks.missing e
      go true x true y d z f w e = names ws (breaks.step i k (lies x) y) e
      go true x false y true z f w e = names ws (breaks.nest i k (lies x) z) e
      go true x false y false z true w e =
          let full = crowded_over kind r l balanced w in
          names ws (breaks.crowded i k (lies x) full.locks full.over) e
      go true x false y false z false w e = never (cc)

  -- From step k on.
  plan_breaks : (left k : ℕ) → k + left ≡ steps_in ws i → (spare : List ℕ) → Balanced (levels_before ws i k) spare → {number place : ℕ} →
      plan_in left (m_in ws) (cost_in ws i) (held_before ws i k) spare ws (step_start ws i k) ≡ bad number place → Broken ws number place
  unfolding plan_in
  plan_breaks zero k s spare balanced {number} {place} e = ends (omega (arith, s)) (nothing_held (held_before ws i k)) refl e
    where
      ends : k ≡ steps_in ws i → (b : Bool) → nothing_held (held_before ws i k) ≡ b →
          ◌≡◌ {A = Read (List Step)} (cond b (got [] (step_start ws i k)) (bad NEST (step_start ws i k))) (bad number place) → Broken ws number place
      ends last true x e = never (cc)
      ends last false x e =
          let some : nothing_held (held_before ws i (steps_in ws i)) ≡ false = subst (λ (j : ℕ). nothing_held (held_before ws i j) ≡ false) last x in
          names ws (subst (λ (j : ℕ). Broken ws NEST (step_start ws i j)) (sym last) (breaks.holding i there some)) e
  plan_breaks (suc left) k s spare balanced {number} {place} e =
      either (step_in (m_in ws) (cost_in ws i) (held_before ws i k) spare ws (step_start ws i k))
      (λ (x : Step) (next : ℕ). plan_in left (m_in ws) (cost_in ws i) (held_after x (held_before ws i k)) (spare_after x spare) ws next and_then λ (xs : List Step) (end : ℕ). got (x ∷ xs) end) e
      (λ stop. step_breaks k (omega (arith, s)) spare balanced stop)
      (λ x next g f. either (plan_in left (m_in ws) (cost_in ws i) (held_after x (held_before ws i k)) (spare_after x spare) ws next) (λ (xs : List Step) (end : ℕ). got (x ∷ xs) end) f
      (λ stop. plan_breaks left (suc k) (omega (arith, s)) (spare_after x spare) (after x next g) (on x next g stop))
      (λ xs end g₂ f₂. never (cc)))
    where
      on : (x : Step) (next : ℕ) → step_in (m_in ws) (cost_in ws i) (held_before ws i k) spare ws (step_start ws i k) ≡ got x next →
          plan_in left (m_in ws) (cost_in ws i) (held_after x (held_before ws i k)) (spare_after x spare) ws next ≡ bad number place →
          plan_in left (m_in ws) (cost_in ws i) (held_before ws i (suc k)) (spare_after x spare) ws (step_start ws i (suc k)) ≡ bad number place
      on x next g stop =
          let q = step_got (m_in ws) (cost_in ws i) (held_before ws i k) spare ws (step_start ws i k) g in
          let moved : next ≡ step_start ws i (suc k) = omega (arith, q.place) in
          let holds : held_after x (held_before ws i k) ≡ held_before ws i (suc k) =
          ap (λ (y : Step). held_after y (held_before ws i k)) q.value ∙ sym (held_more ws (task_start ws i + at_plan) k)
          in
          subst₂ (λ (held : List Section) (at : ℕ). plan_in left (m_in ws) (cost_in ws i) held (spare_after x spare) ws at ≡ bad number place) holds moved stop

      after : (x : Step) (next : ℕ) → step_in (m_in ws) (cost_in ws i) (held_before ws i k) spare ws (step_start ws i k) ≡ got x next →
          Balanced (levels_before ws i (suc k)) (spare_after x spare)
      after x next g =
          let q = step_got (m_in ws) (cost_in ws i) (held_before ws i k) spare ws (step_start ws i k) g in
          let levels : levels_after x (levels_before ws i k) ≡ levels_before ws i (suc k) =
          ap (λ (y : Step). levels_after y (levels_before ws i k)) q.value ∙ sym (levels_more (unclaimed (cost_in ws i) ∷ []) ws (task_start ws i + at_plan) k)
          in
          subst (λ (y : List Level). Balanced y (spare_after x spare)) levels (balanced_after x balanced q.fits)

  task_breaks : {number place : ℕ} → task_in (m_in ws) ws (task_start ws i) ≡ bad number place → Broken ws number place
  unfolding task_in
  task_breaks {number} {place} e =
      either (word_in RANGE 1 most_ticks ws at) (after_t (m_in ws) ws) e
      (λ stop. word_breaks RANGE 1 most_ticks ws (at + at_period) (moved RANGE 1 most_ticks at (at + at_period) (omega arith) stop) (λ out. breaks.period i there out))
      (λ t at₁ g₁ e₁. let wt = word_got RANGE 1 most_ticks ws at g₁ in
      either (word_in RANGE 1 most_ticks ws at₁) (after_d (m_in ws) ws t) e₁
      (λ stop. word_breaks RANGE 1 most_ticks ws (at + at_deadline) (moved RANGE 1 most_ticks at₁ (at + at_deadline) (omega (arith, wt.place)) stop) (λ out. breaks.deadline i there out))
      (λ d at₂ g₂ e₂. let wd = word_got RANGE 1 most_ticks ws at₁ g₂ in
      either (word_in RANGE 1 most_ticks ws at₂) (after_c (m_in ws) ws t d) e₂
      (λ stop. word_breaks RANGE 1 most_ticks ws (at + at_cost) (moved RANGE 1 most_ticks at₂ (at + at_cost) (omega (arith, wt.place, wd.place)) stop) (λ out. breaks.cost i there out))
      (λ c at₃ g₃ e₃. let wc = word_got RANGE 1 most_ticks ws at₂ g₃ in
      either (word_in COUNT 0 most_steps ws at₃) (after_s (m_in ws) ws t d c) e₃
      (λ stop. word_breaks COUNT 0 most_steps ws (at + at_steps) (moved COUNT 0 most_steps at₃ (at + at_steps) (omega (arith, wt.place, wd.place, wc.place)) stop) (λ out. breaks.steps i there out))
      (λ s at₄ g₄ e₄. let wn = word_got COUNT 0 most_steps ws at₃ g₄ in
      either (plan_in s (m_in ws) c [] (c ∷ []) ws at₄) (after_plan t d c) e₄
      (λ stop. plan_breaks (steps_in ws i) zero (omega arith) (cost_in ws i ∷ []) first
      (from s c at₄
      (wn.value ∙ ap (λ (j : ℕ). get_or ws j 0) (omega (arith, wt.place, wd.place, wc.place)))
      (wc.value ∙ ap (λ (j : ℕ). get_or ws j 0) (omega (arith, wt.place, wd.place)))
      (omega (arith, wt.place, wd.place, wc.place, wn.place)) stop))
      (λ xs end g₅ e₅. never (cc))))))
    where
      at : ℕ
      at = task_start ws i

      first : Balanced (levels_before ws i zero) (cost_in ws i ∷ [])
      first = rw (levels_none (unclaimed (cost_in ws i) ∷ []) ws (task_start ws i + at_plan)) (balanced_first (cost_in ws i))

      moved : (by least most x y : ℕ) → x ≡ y → word_in by least most ws x ≡ bad number place → word_in by least most ws y ≡ bad number place
      moved by least most x y q stop = subst (λ (z : ℕ). word_in by least most ws z ≡ bad number place) q stop

      from : (s c at₄ : ℕ) → s ≡ steps_in ws i → c ≡ cost_in ws i → at₄ ≡ step_start ws i zero → plan_in s (m_in ws) c [] (c ∷ []) ws at₄ ≡ bad number place →
          plan_in (steps_in ws i) (m_in ws) (cost_in ws i) (held_before ws i zero) (cost_in ws i ∷ []) ws (step_start ws i zero) ≡ bad number place
      from s c at₄ es ec ea stop = rw (held_none ws (task_start ws i + at_plan), ← es, ← ec, ← ea) stop

-- ---- the tasks

tasks_breaks : (ws : List ℕ) (left i : ℕ) → i + left ≡ n_in ws → {number place : ℕ} → tasks_in left (m_in ws) ws (task_start ws i) ≡ bad number place →
    Broken ws number place
unfolding tasks_in task_start
tasks_breaks ws zero i n e = never (cc)
tasks_breaks ws (suc left) i n {number} {place} e =
    either (task_in (m_in ws) ws (task_start ws i)) (λ (x : Task) (next : ℕ). tasks_in left (m_in ws) ws next and_then λ (xs : List Task) (end : ℕ). got (x ∷ xs) end) e
    (λ stop. task_breaks ws i (omega (arith, n)) stop)
    (λ x next g f. either (tasks_in left (m_in ws) ws next) (λ (xs : List Task) (end : ℕ). got (x ∷ xs) end) f
    (λ stop. tasks_breaks ws left (suc i) (omega (arith, n))
    (subst (λ (at : ℕ). tasks_in left (m_in ws) ws at ≡ bad number place) (task_got (m_in ws) ws (task_start ws i) g).place stop))
    (λ xs end g₂ f₂. never (cc)))

table_breaks : (ws : List ℕ) {number place : ℕ} → table_read ws ≡ bad number place → Broken ws number place
unfolding task_start
table_breaks ws {number} {place} e =
    either (word_in COUNT 1 most_tasks ws 0) (after_n ws) e
    (λ stop. word_breaks COUNT 1 most_tasks ws 0 stop (λ out. breaks.tasks out))
    (λ n at₁ g₁ e₁. let wn = word_got COUNT 1 most_tasks ws 0 g₁ in
    either (word_in COUNT 0 most_resources ws at₁) (after_m ws n) e₁
    (λ stop. word_breaks COUNT 0 most_resources ws 1 (subst (λ (z : ℕ). word_in COUNT 0 most_resources ws z ≡ bad number place) wn.place stop) (λ out. breaks.resources out))
    (λ m at₂ g₂ e₂. let wm = word_got COUNT 0 most_resources ws at₁ g₂ in
    either (tasks_in n m ws at₂) (after_tasks m) e₂
    (λ stop. tasks_breaks ws (n_in ws) zero (omega arith)
    (from n m at₂ wn.value (wm.value ∙ ap (λ (j : ℕ). get_or ws j 0) wn.place) (omega (arith, wn.place, wm.place)) stop))
    (λ xs end g₃ e₃. never (cc))))
  where
    from : (n m at₂ : ℕ) → n ≡ n_in ws → m ≡ m_in ws → at₂ ≡ at_tasks → tasks_in n m ws at₂ ≡ bad number place → tasks_in (n_in ws) (m_in ws) ws at_tasks ≡ bad number place
    from n m at₂ en em ea stop = rw (← en, ← em, ← ea) stop

-- What each refusal tells.
pub refused_breaks : (ws : List ℕ) (number place : ℕ) → check_of ws ≡ refused number place → Broken ws number place
unfolding check_of
refused_breaks ws number place e = go (table_read ws) refl e
  where
    past : (t : Table) (end : ℕ) → table_read ws ≡ got t end → (b : Bool) → ltb end (length ws) ≡ b → cond b (refused SHORT end) (sound t) ≡ refused number place →
        Broken ws number place
    past t end q true x e =
        let p = table_passed ws t end q in
        let i : SHORT ≡ number = cc in
        let j : end ≡ place = cc in
        subst₂ (Broken ws) i j (breaks.extra t end (passed_valid p) (passed_words p) (ltb-true end (length ws) x))
    past t end q false x e = never (cc)

    go : (read : Read Table) → table_read ws ≡ read → ended ws read ≡ refused number place → Broken ws number place
    go (got t end) q e = past t end q (ltb end (length ws)) refl e
    go (bad n p) q e =
        let i : n ≡ number = cc in
        let j : p ≡ place = cc in
        subst₂ (Broken ws) i j (table_breaks ws q)
