-- What a read that got something tells: where it ends, that what it got is valid, that the raw reading finds the same, and that the words it
-- passed are the words of what it got. The idea: a law for one word, one step, one plan, one task and the tasks, each from the one before.
-- Assumes nothing.
use mathlib.Core.Path.{◌≡◌, refl, sym, ap, ap₂, ◌∙◌, subst₂}
use mathlib.Core.Bool.{Bool, true, false, cond, ◌&&◌, ◌||◌}
use mathlib.Core.List.{List, [], ◌∷◌, ◌++◌, append_assoc}
use Prim.Native.Nat.{ℕ, zero, suc, ◌+◌, ◌*◌, ◌≤◌, ◌<◌, min}
use native.Mathlib.Nat.{not-suc-le-zero, le_of_suc-le-suc}
use native.Mathlib.Numerals.{add-one, add-two, add-three}
use native.Mathlib.Omega.{arith}
use lib.Dec.{ltb, leb, eqb, lit<}
use lib.ListN.{length, get_or, drop}
use lib.Seq.{drop-cons}
use borrow.Author.Tests.{ltb-true, ltb-false, leb-true, leb-false, eqb-true, not-false}
use Rattle.table.specs.Limits.{most_ticks, most_steps, most_held, at_period, at_deadline, at_cost, at_steps, at_plan, step_size, at_resource, at_length}
use Rattle.table.specs.Table.{Step, unlock, Task, no_task}
use Rattle.table.specs.Held.{Section, held_after, holds}
use Rattle.table.specs.Spare.{spare_after, crowded}
use Rattle.table.specs.Claims.{Level, unclaimed, levels_after, Fitting, finishes}
use Rattle.table.specs.Check.{Read, got, bad, ◌and_then◌, word_in, broken_step, broken_lock, nothing_held, broken_nest, step_said, step_in, plan_in, task_in, tasks_in}
use Rattle.numbers.specs.Answers.{RANGE, COUNT, SHORT, STEP, NEST, CROWDED}
use Rattle.table.specs.Valid.{Allowed, Nested, ends, locks, unlocks, ValidTask}
use Rattle.table.specs.Map.{steps_at, task_at, tasks_at, behind, starts_from}
use Rattle.table.specs.Words.{step_words, plan_words, task_words, tasks_words}
use Rattle.table.proofs.Claimed.{Balanced, balanced_first, balanced_after, fits_more}
use Rattle.numbers.proofs.Tests.{never, or_false_left, or_false_right, and_left, and_right}

-- ---- reads in a row

-- If both got something, so did the first, and then the second.
pub both : {A B P : Type 0} (read : Read A) (then : A → ℕ → Read B) {b : B} {end : ℕ} → (read and_then then) ≡ got b end →
    ((a : A) (next : ℕ) → read ≡ got a next → then a next ≡ got b end → P) → P
both (got a next) then e found = found a next refl e
both (bad number place) then e found = never (cc)

pub got_value : {A : Type 0} {a b : A} {i j : ℕ} → got a i ≡ got b j → a ≡ b
got_value e = cc

pub got_place : {A : Type 0} {a b : A} {i j : ℕ} → got a i ≡ got b j → i ≡ j
got_place e = cc

-- A test that has to pass, and one that has to fail.
passed : {A : Type 0} (t : Bool) (read : Read A) (number place : ℕ) {a : A} {end : ℕ} → cond t read (bad number place) ≡ got a end →
    (t ≡ true) × (read ≡ got a end)
passed true read number place e = (refl, e)
passed false read number place e = never (cc)

failed : {A : Type 0} (t : Bool) (read : Read A) (number place : ℕ) {a : A} {end : ℕ} → cond t (bad number place) read ≡ got a end →
    (t ≡ false) × (read ≡ got a end)
failed true read number place e = never (cc)
failed false read number place e = (refl, e)

-- ---- one word

pub record Word (least most : ℕ) (ws : List ℕ) (at x next : ℕ) : Type 0 where
  pub there : at < length ws
  pub low : least ≤ x
  pub high : x ≤ most
  pub value : x ≡ get_or ws at 0
  pub place : next ≡ at + 1
  pub words : drop at ws ≡ x ∷ drop next ws

pub word_got : (number least most : ℕ) (ws : List ℕ) (at : ℕ) {x next : ℕ} → word_in number least most ws at ≡ got x next →
    Word least most ws at x next
unfolding word_in
word_got number least most ws at {x} {next} e =
    let x' = get_or ws at 0 in
    let here = passed (ltb at (length ws)) (cond (leb least x' && leb x' most) (got x' (at + 1)) (bad number at)) SHORT (length ws) e in
    let range = passed (leb least x' && leb x' most) (got x' (at + 1)) number at here.1 in
    let value : x ≡ get_or ws at 0 = sym (got_value range.1) in
    let place : next ≡ at + 1 = sym (got_place range.1) in
    let there : at < length ws = ltb-true at (length ws) here.0 in
    let low : least ≤ get_or ws at 0 = leb-true least (get_or ws at 0) (and_left (leb least (get_or ws at 0)) (leb (get_or ws at 0) most) range.0) in
    let high : get_or ws at 0 ≤ most = leb-true (get_or ws at 0) most (and_right (leb least (get_or ws at 0)) (leb (get_or ws at 0) most) range.0) in
    record {
      there = there;
      low = rw value low;
      high = rw value high;
      value = value;
      place = place;
      words = rw (value, place, add-one at) (drop-cons ws at 0 there);
    }

-- ---- one step

-- A lock that isn't broken is allowed.
lock_allowed : (m c r l : ℕ) (held : List Section) → r < m → 1 ≤ l → l ≤ c → broken_lock r l held ≡ false → Allowed m c r l held
unfolding holds
lock_allowed m c r l [] resource least most e =
    record { resource = resource; least = least; most = most; free = refl; fifth = lit< tt; inner = tt }
lock_allowed m c r l (s ∷ held) resource least most e =
    let rest = or_false_right (holds (s ∷ held) r) (leb most_held (length (s ∷ held)) || ltb s.length l) e in
    record {
      resource = resource;
      least = least;
      most = most;
      free = or_false_left (holds (s ∷ held) r) (leb most_held (length (s ∷ held)) || ltb s.length l) e;
      fifth = leb-false most_held (length (s ∷ held)) (or_false_left (leb most_held (length (s ∷ held))) (ltb s.length l) rest);
      inner = ltb-false s.length l (or_false_right (leb most_held (length (s ∷ held))) (ltb s.length l) rest);
    }

unlock_nested : (m c : ℕ) (held : List Section) → nothing_held held ≡ false → (steps : List Step) → Nested m c (held_after unlock held) steps →
    Nested m c held (unlock ∷ steps)
unlock_nested m c [] e steps n = never (cc)
unlock_nested m c (s ∷ held) e steps n = unlocks n

-- What three words that aren't broken say: a step whose words they are, and which nests.
record Said (m c : ℕ) (held : List Section) (kind r l : ℕ) : Type 0 where
  words : step_words (step_said kind r l) ≡ kind ∷ r ∷ l ∷ []
  nests : (steps : List Step) → Nested m c (held_after (step_said kind r l) held) steps → Nested m c held (step_said kind r l ∷ steps)

said : (m c : ℕ) (held : List Section) (kind r l : ℕ) → broken_step m c kind r l ≡ false → broken_nest (step_said kind r l) held ≡ false →
    Said m c held kind r l
said m c held kind r l whole nests = go (eqb kind 1) refl
  where
    go : (t : Bool) → eqb kind 1 ≡ t → Said m c held kind r l
    go true q =
        let fits : (ltb r m && (leb 1 l && leb l c)) ≡ true = not-false (ltb r m && (leb 1 l && leb l c)) (rw q at whole) in
        let long : (leb 1 l && leb l c) ≡ true = and_right (ltb r m) (leb 1 l && leb l c) fits in
        let free : broken_lock r l held ≡ false = rw q at nests in
        let allowed : Allowed m c r l held =
        lock_allowed m c r l held (ltb-true r m (and_left (ltb r m) (leb 1 l && leb l c) fits)) (leb-true 1 l (and_left (leb 1 l) (leb l c) long))
        (leb-true l c (and_right (leb 1 l) (leb l c) long)) free
        in
        record {
          words = rw (q, eqb-true kind 1 q);
          nests = rw q (λ steps n. locks allowed n);
        }
    go false q =
        let fits : (eqb kind 2 && (eqb r 0 && eqb l 0)) ≡ true = not-false (eqb kind 2 && (eqb r 0 && eqb l 0)) (rw q at whole) in
        let zeros : (eqb r 0 && eqb l 0) ≡ true = and_right (eqb kind 2) (eqb r 0 && eqb l 0) fits in
        let two : kind ≡ 2 = eqb-true kind 2 (and_left (eqb kind 2) (eqb r 0 && eqb l 0) fits) in
        let some : nothing_held held ≡ false = rw q at nests in
        record {
          words = rw (q, two, eqb-true r 0 (and_left (eqb r 0) (eqb l 0) zeros), eqb-true l 0 (and_right (eqb r 0) (eqb l 0) zeros));
          nests = rw q (unlock_nested m c held some);
        }

drop_three : (ws : List ℕ) (at : ℕ) → at + step_size ≤ length ws →
    drop at ws ≡ get_or ws at 0 ∷ get_or ws (at + at_resource) 0 ∷ get_or ws (at + at_length) 0 ∷ drop (at + step_size) ws
drop_three ws at h =
    rw (add-one, add-two, add-three)
    (rw (drop-cons ws at 0 (omega arith), drop-cons ws (suc at) 0 (omega arith), drop-cons ws (suc (suc at)) 0 (omega arith)))

pub record StepGot (m c : ℕ) (held : List Section) (spare ws : List ℕ) (at : ℕ) (step : Step) (next : ℕ) : Type 0 where
  pub there : at + step_size ≤ length ws
  pub value : step ≡ step_said (get_or ws at 0) (get_or ws (at + at_resource) 0) (get_or ws (at + at_length) 0)
  pub place : next ≡ at + step_size
  pub nests : (steps : List Step) → Nested m c (held_after step held) steps → Nested m c held (step ∷ steps)
  pub fits : crowded step spare ≡ false
  pub words : drop at ws ≡ step_words step ++ drop next ws

pub step_got : (m c : ℕ) (held : List Section) (spare ws : List ℕ) (at : ℕ) {step : Step} {next : ℕ} → step_in m c held spare ws at ≡ got step next →
    StepGot m c held spare ws at step next
unfolding step_in
step_got m c held spare ws at {step} {next} e =
    let kind = get_or ws at 0 in
    let r = get_or ws (at + at_resource) 0 in
    let l = get_or ws (at + at_length) 0 in
    let said' = step_said kind r l in
    let fit = cond (crowded said' spare) (bad CROWDED at) (got said' (at + step_size)) in
    let nest = cond (broken_nest said' held) (bad NEST at) fit in
    let here = passed (leb (at + step_size) (length ws)) (cond (broken_step m c kind r l) (bad STEP at) nest) SHORT (length ws) e in
    let whole = failed (broken_step m c kind r l) nest STEP at here.1 in
    let nested = failed (broken_nest said' held) fit NEST at whole.1 in
    let fitted = failed (crowded said' spare) (got said' (at + step_size)) CROWDED at nested.1 in
    let value : step ≡ said' = sym (got_value fitted.1) in
    let place : next ≡ at + step_size = sym (got_place fitted.1) in
    let there : at + step_size ≤ length ws = leb-true (at + step_size) (length ws) here.0 in
    let fine : Said m c held kind r l = said m c held kind r l whole.0 nested.0 in
    record {
      there = there;
      value = value;
      place = place;
      nests = rw value fine.nests;
      fits = rw value fitted.0;
      words = rw (value, place) (drop_three ws at there ∙ ap (λ (w : List ℕ). w ++ drop (at + step_size) ws) (sym fine.words));
    }

-- ---- a plan

pub record PlanGot (left m c : ℕ) (held : List Section) (spare ws : List ℕ) (at : ℕ) (steps : List Step) (end : ℕ) : Type 0 where
  pub value : steps ≡ steps_at left ws at
  pub place : end ≡ at + step_size * left
  pub there : at ≤ length ws → end ≤ length ws
  pub count : length steps ≡ left
  pub nests : Nested m c held steps
  pub fits : (levels : List Level) → Balanced levels spare → Fitting levels steps
  pub words : drop at ws ≡ plan_words steps ++ drop end ws

nothing_nested : (m c : ℕ) (held : List Section) → nothing_held held ≡ true → Nested m c held []
nothing_nested m c [] e = ends
nothing_nested m c (s ∷ held) e = never (cc)

plan_more : {left m c : ℕ} {held : List Section} {spare ws : List ℕ} {at : ℕ} {step : Step} {next : ℕ} {rest : List Step} {end : ℕ} →
    StepGot m c held spare ws at step next → PlanGot left m c (held_after step held) (spare_after step spare) ws next rest end →
    PlanGot (suc left) m c held spare ws at (step ∷ rest) end
unfolding steps_at plan_words
plan_more {left} {m} {c} {held} {spare} {ws} {at} {step} {next} {rest} {end} s p =
    let place : next ≡ at + step_size = s.place in
    record {
      value = ap₂ {C = List Step} (λ (x : Step) (xs : List Step). x ∷ xs) s.value (p.value ∙ ap (steps_at left ws) place);
      place = omega arith;
      there = λ (h : at ≤ length ws). p.there (rw place s.there);
      count = ap suc p.count;
      nests = s.nests rest p.nests;
      fits = λ (levels : List Level) (b : Balanced levels spare). fits_more step b s.fits (p.fits (levels_after step levels) (balanced_after step b s.fits));
      words = s.words ∙ ap (λ (x : List ℕ). step_words step ++ x) p.words ∙ sym (append_assoc (step_words step) (plan_words rest) (drop end ws));
    }

pub plan_got : (left m c : ℕ) (held : List Section) (spare ws : List ℕ) (at : ℕ) {steps : List Step} {end : ℕ} →
    plan_in left m c held spare ws at ≡ got steps end → PlanGot left m c held spare ws at steps end
unfolding plan_in steps_at plan_words
plan_got zero m c held spare ws at {steps} {end} e =
    let last = passed (nothing_held held) (got [] at) NEST at e in
    let none : steps ≡ [] = sym (got_value last.1) in
    let place : end ≡ at = sym (got_place last.1) in
    record {
      value = none;
      place = omega arith;
      there = λ (h : at ≤ length ws). omega arith;
      count = rw none;
      nests = rw none (nothing_nested m c held last.0);
      fits = rw none (λ (levels : List Level) (b : Balanced levels spare). finishes);
      words = rw (none, place);
    }
plan_got (suc left) m c held spare ws at {steps} {end} e =
    both (step_in m c held spare ws at)
    (λ (step : Step) (next : ℕ). ◌and_then◌ (plan_in left m c (held_after step held) (spare_after step spare) ws next) (λ (rest : List Step) (last : ℕ). got (step ∷ rest) last)) e
    (λ step next e₁ e₂. both (plan_in left m c (held_after step held) (spare_after step spare) ws next) (λ (rest : List Step) (last : ℕ). got (step ∷ rest) last) e₂
    (λ rest last e₃ e₄. subst₂ (PlanGot (suc left) m c held spare ws at) (got_value e₄) (got_place e₄)
    (plan_more (step_got m c held spare ws at e₁) (plan_got left m c (held_after step held) (spare_after step spare) ws next e₃))))

-- ---- a task

-- The rest of a task behind each read.
abbrev pub after_plan : ℕ → ℕ → ℕ → List Step → ℕ → Read Task
after_plan t d c plan next = got (record { T = t; D = d; C = c; plan = plan }) next

abbrev pub after_s : ℕ → List ℕ → ℕ → ℕ → ℕ → ℕ → ℕ → Read Task
after_s m ws t d c s at₄ = plan_in s m c [] (c ∷ []) ws at₄ and_then after_plan t d c

abbrev pub after_c : ℕ → List ℕ → ℕ → ℕ → ℕ → ℕ → Read Task
after_c m ws t d c at₃ = word_in COUNT 0 most_steps ws at₃ and_then after_s m ws t d c

abbrev pub after_d : ℕ → List ℕ → ℕ → ℕ → ℕ → Read Task
after_d m ws t d at₂ = word_in RANGE 1 most_ticks ws at₂ and_then after_c m ws t d

abbrev pub after_t : ℕ → List ℕ → ℕ → ℕ → Read Task
after_t m ws t at₁ = word_in RANGE 1 most_ticks ws at₁ and_then after_d m ws t

pub record TaskGot (m : ℕ) (ws : List ℕ) (at : ℕ) (task : Task) (next : ℕ) : Type 0 where
  pub value : task ≡ task_at ws at
  pub place : next ≡ behind ws at
  pub there : next ≤ length ws
  pub most : next ≤ at + (at_plan + most_steps * step_size)
  pub valid : ValidTask m task
  pub words : drop at ws ≡ task_words task ++ drop next ws

task_of_lem : {m : ℕ} {ws : List ℕ} {at t at₁ d at₂ c at₃ s at₄ : ℕ} {plan : List Step} {next : ℕ} → Word 1 most_ticks ws at t at₁ →
    Word 1 most_ticks ws at₁ d at₂ → Word 1 most_ticks ws at₂ c at₃ → Word 0 most_steps ws at₃ s at₄ → PlanGot s m c [] (c ∷ []) ws at₄ plan next →
    TaskGot m ws at (record { T = t; D = d; C = c; plan = plan }) next
unfolding task_at task_words
task_of_lem {m} {ws} {at} {t} {at₁} {d} {at₂} {c} {at₃} {s} {at₄} {plan} {next} wt wd wc wn p =
    let first : at ≡ at + at_period = omega arith in
    let second : at₁ ≡ at + at_deadline = omega (arith, wt.place) in
    let third : at₂ ≡ at + at_cost = omega (arith, wt.place, wd.place) in
    let fourth : at₃ ≡ at + at_steps = omega (arith, wt.place, wd.place, wc.place) in
    let fifth : at₄ ≡ at + at_plan = omega (arith, wt.place, wd.place, wc.place, wn.place) in
    let t_value : t ≡ get_or ws (at + at_period) 0 = wt.value ∙ ap (λ (i : ℕ). get_or ws i 0) first in
    let count : s ≡ get_or ws (at + at_steps) 0 = wn.value ∙ ap (λ (i : ℕ). get_or ws i 0) fourth in
    let few : s ≤ most_steps = wn.high in
    let steps : s ≡ min (get_or ws (at + at_steps) 0) most_steps = omega arith in
    let d_value : d ≡ get_or ws (at + at_deadline) 0 = wd.value ∙ ap (λ (i : ℕ). get_or ws i 0) second in
    let c_value : c ≡ get_or ws (at + at_cost) 0 = wc.value ∙ ap (λ (i : ℕ). get_or ws i 0) third in
    let plan_value : plan ≡ steps_at (min (get_or ws (at + at_steps) 0) most_steps) ws (at + at_plan) =
    p.value ∙ ap₂ (λ (n i : ℕ). steps_at n ws i) steps fifth
    in
    record {
      value = λ i. record { T = t_value i; D = d_value i; C = c_value i; plan = plan_value i };
      place = omega arith;
      there = p.there (omega arith);
      most = omega arith;
      valid = record {
        T_least = wt.low;
        T_most = wt.high;
        D_least = wd.low;
        D_most = wd.high;
        C_least = wc.low;
        C_most = wc.high;
        steps = rw p.count wn.high;
        nested = p.nests;
        fitting = p.fits (unclaimed c ∷ []) (balanced_first c);
      };
      words = rw (wt.words, wd.words, wc.words, wn.words, p.words, p.count);
    }

pub task_got : (m : ℕ) (ws : List ℕ) (at : ℕ) {task : Task} {next : ℕ} → task_in m ws at ≡ got task next → TaskGot m ws at task next
unfolding task_in
task_got m ws at {task} {next} e =
    both (word_in RANGE 1 most_ticks ws at) (after_t m ws) e
    (λ t at₁ t-got e₁. both (word_in RANGE 1 most_ticks ws at₁) (after_d m ws t) e₁
    (λ d at₂ d-got e₂. both (word_in RANGE 1 most_ticks ws at₂) (after_c m ws t d) e₂
    (λ c at₃ c-got e₃. both (word_in COUNT 0 most_steps ws at₃) (after_s m ws t d c) e₃
    (λ s at₄ s-got e₄. both (plan_in s m c [] (c ∷ []) ws at₄) (after_plan t d c) e₄
    (λ plan next p-got e₅. subst₂ (TaskGot m ws at) (got_value e₅) (got_place e₅)
    (task_of_lem (word_got RANGE 1 most_ticks ws at t-got) (word_got RANGE 1 most_ticks ws at₁ d-got) (word_got RANGE 1 most_ticks ws at₂ c-got)
    (word_got COUNT 0 most_steps ws at₃ s-got) (plan_got s m c [] (c ∷ []) ws at₄ p-got)))))))

-- ---- the tasks

pub record TasksGot (left m : ℕ) (ws : List ℕ) (at : ℕ) (tasks : List Task) (end : ℕ) : Type 0 where
  pub value : tasks ≡ tasks_at left 0 ws (starts_from left ws at)
  pub count : length tasks ≡ left
  pub there : at ≤ length ws → end ≤ length ws
  pub most : end ≤ at + left * (at_plan + most_steps * step_size)
  pub each : (i : ℕ) → i < length tasks → ValidTask m (get_or tasks i no_task)
  pub words : drop at ws ≡ tasks_words tasks ++ drop end ws

-- Of the starts the first is dropped with the first task.
tasks_shift : (left i : ℕ) (ws : List ℕ) (at : ℕ) (starts : List ℕ) → tasks_at left (suc i) ws (at ∷ starts) ≡ tasks_at left i ws starts
unfolding tasks_at
tasks_shift zero i ws at starts = refl
tasks_shift (suc left) i ws at starts = ap {B = List Task} (λ (x : List Task). task_at ws (get_or starts i 0) ∷ x) (tasks_shift left (suc i) ws at starts)

tasks_more : {left m : ℕ} {ws : List ℕ} {at : ℕ} {task : Task} {next : ℕ} {rest : List Task} {end : ℕ} → TaskGot m ws at task next →
    TasksGot left m ws next rest end → TasksGot (suc left) m ws at (task ∷ rest) end
unfolding tasks_at starts_from tasks_words
tasks_more {left} {m} {ws} {at} {task} {next} {rest} {end} t ts =
    let place : next ≡ behind ws at = t.place in
    record {
      value = ap₂ {C = List Task} (λ (x : Task) (xs : List Task). x ∷ xs) t.value (
          ts.value ∙ ap (λ (n : ℕ). tasks_at left 0 ws (starts_from left ws n)) place ∙ sym (tasks_shift left 0 ws at (starts_from left ws (behind ws at)))
          );
      count = ap suc ts.count;
      there = λ (h : at ≤ length ws). ts.there t.there;
      most = omega (arith, t.most, ts.most);
      each = pick;
      words = t.words ∙ ap (λ (x : List ℕ). task_words task ++ x) ts.words ∙ sym (append_assoc (task_words task) (tasks_words rest) (drop end ws));
    }
  where
    pick : (i : ℕ) → i < length (task ∷ rest) → ValidTask m (get_or (task ∷ rest) i no_task)
    pick zero h = t.valid
    pick (suc i) h = ts.each i (le_of_suc-le-suc h)

pub tasks_got : (left m : ℕ) (ws : List ℕ) (at : ℕ) {tasks : List Task} {end : ℕ} → tasks_in left m ws at ≡ got tasks end →
    TasksGot left m ws at tasks end
unfolding tasks_in tasks_at tasks_words
tasks_got zero m ws at {tasks} {end} e =
    let none : tasks ≡ [] = sym (got_value e) in
    let place : end ≡ at = sym (got_place e) in
    record {
      value = none;
      count = rw none;
      there = λ (h : at ≤ length ws). omega arith;
      most = omega arith;
      each = rw none (λ (i : ℕ) (h : i < 0). absurd (not-suc-le-zero h));
      words = rw (none, place);
    }
tasks_got (suc left) m ws at {tasks} {end} e =
    both (task_in m ws at) (λ (task : Task) (next : ℕ). ◌and_then◌ (tasks_in left m ws next) (λ (rest : List Task) (last : ℕ). got (task ∷ rest) last)) e
    (λ task next e₁ e₂. both (tasks_in left m ws next) (λ (rest : List Task) (last : ℕ). got (task ∷ rest) last) e₂
    (λ rest last e₃ e₄. subst₂ (TasksGot (suc left) m ws at) (got_value e₄) (got_place e₄)
    (tasks_more (task_got m ws at e₁) (tasks_got left m ws next e₃))))
