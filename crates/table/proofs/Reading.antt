-- The readings of the check (`step_in`, `plan_in`, `task_in`, `tasks_in`), one step, one task at a time: what the functions of the walk go by.
-- Each law opens one definition of `specs/Check.antt` at one turn. Assumes nothing.
use Prim.Native.Nat.{ℕ, suc, ◌+◌, ◌-◌, ◌≤◌, ◌<◌}
use mathlib.Core.Path.{◌≡◌, refl, sym, ap, ◌∙◌}
use mathlib.Core.Bool.{Bool, true, false, cond}
use mathlib.Core.List.{List, [], ◌∷◌}
use native.Mathlib.Omega.{arith}
use lib.ListN.{length, get_or}
use borrow.Author.Tests.{le-leb, lt-leb, ne_eqb}
use Rattle.std.specs.List.{slice_range}
use Rattle.std.proofs.lemmas.List.{get_or-take, get_or-drop}
use Rattle.numbers.specs.Answers.{SHORT, COUNT, RANGE, STEP, NEST, CROWDED}
use Rattle.numbers.proofs.Tests.{never}
use Rattle.table.specs.Limits.{most_ticks, most_steps, most_held, at_period, at_deadline, at_cost, at_steps, at_plan, step_size, at_resource, at_length}
use Rattle.table.specs.Table.{Step, Task}
use Rattle.table.specs.Held.{held_after}
use Rattle.table.specs.Spare.{spare_after, crowded}
use Rattle.table.specs.Check.{Read, got, bad, ◌and_then◌, word_in, broken_step, broken_nest, step_said, step_in, plan_in, task_in, tasks_in}
use Rattle.table.specs.Map.{behind}
use Rattle.table.specs.Levels.{sections_of, spare_of}
use Rattle.table.specs.Walk.{end_of, Standing, standing_after, standing_behind, judged, step_from, plan_from}
use Rattle.table.specs.declared.sections.Section as kept
use Rattle.table.proofs.Levels.{nothing_test}
use Rattle.table.proofs.Passed.{step_got, task_got}

-- ---- one step

-- NEST and CROWDED come behind STEP.
judged_behind : (step : Step) (standing : Standing) (at : ℕ) →
    standing_behind standing (cond (broken_nest step standing.held) (bad NEST at) (cond (crowded step standing.spare) (bad CROWDED at) (got step (at + step_size)))) ≡ judged step standing at
judged_behind step standing at = go (broken_nest step standing.held) (crowded step standing.spare)
  where
    go : (nest crowd : Bool) →
        standing_behind standing (cond nest (bad NEST at) (cond crowd (bad CROWDED at) (got step (at + step_size))))
        ≡ cond nest (bad NEST at) (cond crowd (bad CROWDED at) (got (standing_after step standing) (at + step_size)))
    go true crowd = refl
    go false true = refl
    go false false = refl

module _ (m c : ℕ) (standing : Standing) (ws : List ℕ) (at : ℕ) where
  pub step_short : length ws < at + step_size → step_from m c standing ws at ≡ bad SHORT (length ws)
  unfolding step_in
  step_short h = rw (lt-leb (at + step_size) (length ws) h)

  -- The three words of a step that is there.
  module _ (step : List ℕ) (there : at + step_size ≤ length ws) (is : step ≡ slice_range ws at (at + step_size)) where
    word : (i : ℕ) → i < step_size → get_or step i 0 ≡ get_or ws (at + i) 0
    word i h =
        let k : i < at + step_size - at = omega arith in
        rw is (get_or-take (at + step_size - at) _ i 0 k ∙ get_or-drop at ws i 0)

    first : get_or step 0 0 ≡ get_or ws at 0
    first =
        let e : at + 0 ≡ at = omega arith in
        word 0 (omega arith) ∙ ap (λ (i : ℕ). get_or ws i 0) e

    second : get_or step at_resource 0 ≡ get_or ws (at + at_resource) 0
    second = word at_resource (omega arith)

    third : get_or step at_length 0 ≡ get_or ws (at + at_length) 0
    third = word at_length (omega arith)

    pub step_off : broken_step m c (get_or step 0 0) (get_or step at_resource 0) (get_or step at_length 0) ≡ true → step_from m c standing ws at ≡ bad STEP at
    unfolding step_in
    step_off b =
        let q : broken_step m c (get_or ws at 0) (get_or ws (at + at_resource) 0) (get_or ws (at + at_length) 0) ≡ true = rw (first, second, third) at b in
        rw (le-leb (at + step_size) (length ws) there, q)

    pub step_on : (said : Step) → broken_step m c (get_or step 0 0) (get_or step at_resource 0) (get_or step at_length 0) ≡ false →
        said ≡ step_said (get_or step 0 0) (get_or step at_resource 0) (get_or step at_length 0) → step_from m c standing ws at ≡ judged said standing at
    unfolding step_in
    step_on said b e =
        let q : broken_step m c (get_or ws at 0) (get_or ws (at + at_resource) 0) (get_or ws (at + at_length) 0) ≡ false = rw (first, second, third) at b in
        let f : said ≡ step_said (get_or ws at 0) (get_or ws (at + at_resource) 0) (get_or ws (at + at_length) 0) = rw (first, second, third) at e in
        rw f
        (rw (le-leb (at + step_size) (length ws) there, q) (judged_behind (step_said (get_or ws at 0) (get_or ws (at + at_resource) 0) (get_or ws (at + at_length) 0)) standing at))

-- ---- the rest behind a reading

-- What is made of what was read has the same end.
wraps : {A B : Type 0} (x : Read A) (make : A → B) → end_of (x and_then λ a end. got (make a) end) ≡ end_of x
wraps (got a end) make = refl
wraps (bad number place) make = refl

-- A plan goes on behind its first step, and ends where that is refused.
abbrev plan_rest : ℕ → ℕ → ℕ → List ℕ → Read Standing → Read (Unit {0})
plan_rest left m c ws (got standing next) = end_of (plan_from left m c standing ws next)
plan_rest left m c ws (bad number place) = bad number place

plan_turn : (left m c : ℕ) (standing : Standing) (ws : List ℕ) (at : ℕ) →
    end_of (plan_from (suc left) m c standing ws at) ≡ plan_rest left m c ws (step_from m c standing ws at)
unfolding plan_in
plan_turn left m c standing ws at = go (step_in m c standing.held standing.spare ws at)
  where
    go : (x : Read Step) →
        end_of
        (x and_then λ step next. plan_in left m c (held_after step standing.held) (spare_after step standing.spare) ws next and_then λ steps end. got (step ∷ steps) end)
        ≡ plan_rest left m c ws (standing_behind standing x)
    go (got step next) = wraps (plan_in left m c (held_after step standing.held) (spare_after step standing.spare) ws next) (λ (steps : List Step). step ∷ steps)
    go (bad number place) = refl

pub plan_goes : (n left m c : ℕ) (standing : Standing) (ws : List ℕ) (at : ℕ) (next : Read Standing) (whole : Read (Unit {0})) → n ≡ suc left →
    end_of (plan_from n m c standing ws at) ≡ whole → next ≡ step_from m c standing ws at → plan_rest left m c ws next ≡ whole
plan_goes n left m c standing ws at next whole e goes step =
    let g : end_of (plan_from (suc left) m c standing ws at) ≡ whole = rw e at goes in
    ap (plan_rest left m c ws) step ∙ sym (plan_turn left m c standing ws at) ∙ g

-- Where a step that was read ends.
pub step_room : (m c : ℕ) (standing : Standing) (ws : List ℕ) (at : ℕ) (standing' : Standing) (next : ℕ) → got standing' next ≡ step_from m c standing ws at → next ≤ length ws
step_room m c standing ws at standing' next e = go (step_in m c standing.held standing.spare ws at) refl e
  where
    go : (x : Read Step) → step_in m c standing.held standing.spare ws at ≡ x → got standing' next ≡ standing_behind standing x → next ≤ length ws
    go (got step place) f g =
        let s = step_got m c standing.held standing.spare ws at f in
        let same : next ≡ place = cc in
        omega (arith, s.there, s.place)
    go (bad number place) f g = never (cc)

-- The end of a plan.
pub plan_holds : (left m c depth : ℕ) (sections : List kept.Section) (spare ws : List ℕ) (at : ℕ) → left ≡ 0 → length sections ≡ most_held → (depth ≡ 0 → ⊥) →
    end_of (plan_in left m c (sections_of depth sections) (spare_of depth spare) ws at) ≡ bad NEST at
unfolding plan_in
plan_holds left m c depth sections spare ws at l all deep = rw (l, plan_in) (rw (nothing_test depth sections all, ne_eqb depth 0 deep))

pub plan_ends : (left m c depth : ℕ) (sections : List kept.Section) (spare ws : List ℕ) (at : ℕ) → left ≡ 0 → depth ≡ 0 →
    end_of (plan_in left m c (sections_of depth sections) (spare_of depth spare) ws at) ≡ got tt at
unfolding plan_in
plan_ends left m c depth sections spare ws at l flat = rw (l, flat, plan_in)

-- Tasks go on behind the first, and end where that is refused.
abbrev tasks_rest : ℕ → ℕ → List ℕ → Read (Unit {0}) → Read (Unit {0})
tasks_rest left m ws (got x next) = end_of (tasks_in left m ws next)
tasks_rest left m ws (bad number place) = bad number place

tasks_turn : (left m : ℕ) (ws : List ℕ) (at : ℕ) → end_of (tasks_in (suc left) m ws at) ≡ tasks_rest left m ws (end_of (task_in m ws at))
unfolding tasks_in
tasks_turn left m ws at = go (task_in m ws at)
  where
    go : (x : Read Task) → end_of (x and_then λ task next. tasks_in left m ws next and_then λ tasks end. got (task ∷ tasks) end) ≡ tasks_rest left m ws (end_of x)
    go (got task next) = wraps (tasks_in left m ws next) (λ (tasks : List Task). task ∷ tasks)
    go (bad number place) = refl

pub tasks_go : (n left m : ℕ) (ws : List ℕ) (at : ℕ) (end whole : Read (Unit {0})) → n ≡ suc left → end_of (tasks_in n m ws at) ≡ whole →
    end ≡ end_of (task_in m ws at) → tasks_rest left m ws end ≡ whole
tasks_go n left m ws at end whole e goes task =
    let g : end_of (tasks_in (suc left) m ws at) ≡ whole = rw e at goes in
    ap (tasks_rest left m ws) task ∙ sym (tasks_turn left m ws at) ∙ g

-- A task whose plan ends holding something.
pub tasks_hold : (n m : ℕ) (ws : List ℕ) (at place : ℕ) → 0 < n → end_of (task_in m ws at) ≡ bad NEST place → bad NEST place ≡ end_of (tasks_in n m ws at)
tasks_hold n m ws at place h task = tasks_go n (n - 1) m ws at (bad NEST place) (end_of (tasks_in n m ws at)) (omega arith) refl (sym task)

-- Where a task that was read ends.
pub record Ends (ws : List ℕ) (at next : ℕ) : Type 0 where
  pub place : next ≡ behind ws at
  pub there : next ≤ length ws

pub task_ends : (m : ℕ) (ws : List ℕ) (at next : ℕ) → got tt next ≡ end_of (task_in m ws at) → Ends ws at next
task_ends m ws at next e = go (task_in m ws at) refl e
  where
    go : (x : Read Task) → task_in m ws at ≡ x → got tt next ≡ end_of x → Ends ws at next
    go (got task place) f g =
        let t = task_got m ws at f in
        let same : next ≡ place = cc in
        record { place = same ∙ t.place; there = rw same t.there }
    go (bad number place) f g = never (cc)

pub tasks_end : (left m : ℕ) (ws : List ℕ) (at : ℕ) → left ≡ 0 → end_of (tasks_in left m ws at) ≡ got tt at
unfolding tasks_in
tasks_end left m ws at e = rw (e, tasks_in)

-- ---- a task's first words

module _ (m : ℕ) (ws : List ℕ) (at : ℕ) where
  pub period_refused : (number place : ℕ) → word_in RANGE 1 most_ticks ws (at + at_period) ≡ bad number place → end_of (task_in m ws at) ≡ bad number place
  unfolding task_in
  period_refused number place e =
      let first : at + at_period ≡ at = omega arith in
      rw (rw first at e, task_in)

  module _ (t : ℕ) (period : word_in RANGE 1 most_ticks ws (at + at_period) ≡ got t (at + at_period + 1)) where
    first_word : word_in RANGE 1 most_ticks ws at ≡ got t (at + at_deadline)
    first_word =
        let first : at + at_period ≡ at = omega arith in
        rw first at period

    pub deadline_refused : (number place : ℕ) → word_in RANGE 1 most_ticks ws (at + at_deadline) ≡ bad number place → end_of (task_in m ws at) ≡ bad number place
    unfolding task_in
    deadline_refused number place e = rw (first_word, task_in) (rw e)

    module _ (d : ℕ) (deadline : word_in RANGE 1 most_ticks ws (at + at_deadline) ≡ got d (at + at_deadline + 1)) where
      second_word : word_in RANGE 1 most_ticks ws (at + at_deadline) ≡ got d (at + at_cost)
      second_word =
          let next : at + at_deadline + 1 ≡ at + at_cost = omega arith in
          rw next at deadline

      pub cost_refused : (number place : ℕ) → word_in RANGE 1 most_ticks ws (at + at_cost) ≡ bad number place → end_of (task_in m ws at) ≡ bad number place
      unfolding task_in
      cost_refused number place e = rw (first_word, task_in) (rw second_word (rw e))

      module _ (c : ℕ) (cost : word_in RANGE 1 most_ticks ws (at + at_cost) ≡ got c (at + at_cost + 1)) where
        third_word : word_in RANGE 1 most_ticks ws (at + at_cost) ≡ got c (at + at_steps)
        third_word =
            let next : at + at_cost + 1 ≡ at + at_steps = omega arith in
            rw next at cost

        pub steps_refused : (number place : ℕ) → word_in COUNT 0 most_steps ws (at + at_steps) ≡ bad number place → end_of (task_in m ws at) ≡ bad number place
        unfolding task_in
        steps_refused number place e = rw (first_word, task_in) (rw second_word (rw third_word (rw e)))

        pub plan_last : (s : ℕ) → word_in COUNT 0 most_steps ws (at + at_steps) ≡ got s (at + at_steps + 1) →
            end_of (task_in m ws at) ≡ end_of (plan_in s m c [] (c ∷ []) ws (at + at_plan))
        unfolding task_in
        plan_last s e =
            let next : at + at_steps + 1 ≡ at + at_plan = omega arith in
            let last : word_in COUNT 0 most_steps ws (at + at_steps) ≡ got s (at + at_plan) = rw next at e in
            rw (first_word, task_in)
            (rw second_word (rw third_word (rw last (wraps (plan_in s m c [] (c ∷ []) ws (at + at_plan)) (λ (plan : List Step). record { T = t; D = d; C = c; plan = plan })))))
