-- "When the table check says no" (document 01): what a list of words says. It is a table, or it is refused with a number and a place.
-- The check stops at the first broken word; a word is asked for only when the words before it are sound; a step's three words are asked for
-- together; within a step 4 goes before 5, and 14 after both; a plan's end is judged before the next word is asked for.
-- Words are read by their index, since a refusal's place is an index. Assumes nothing.
use Rattle.numbers.specs.Answers.{SHORT, COUNT, RANGE, STEP, NEST, CROWDED}
use Rattle.std.specs.Prelude.{ℕ, zero, suc, ◌+◌, Bool, true, false, not, cond, ◌&&◌, ◌||◌, List, [], ◌∷◌, ltb, leb, eqb, length, get_or}
use Rattle.table.specs.Limits.{most_tasks, most_resources, most_ticks, most_steps, most_held, step_size, at_resource, at_length}
use Rattle.table.specs.Table.{Step, lock, unlock, Task, Table}
use Rattle.table.specs.Held.{Section, held_after, holds}
use Rattle.table.specs.Spare.{spare_after, crowded}

-- What reading at a place finds: something, and the place behind it; or a refusal's number and place.
pub data Read (A : Type 0) : Type 0 where
  got : A → ℕ → Read A
  bad : ℕ → ℕ → Read A

-- One read after another: "It asks for a word only when the words before it are sound". What is read next gets what was read and where to go on.
infixr 0 ◌and_then◌
abbrev pub ◌and_then◌ : {A B : Type 0} → Read A → (A → ℕ → Read B) → Read B
◌and_then◌ (got a next) then = then a next
◌and_then◌ (bad number place) then = bad number place

-- One word that has to lie between least and most: "a wanted word isn't there" is SHORT at the list's length; outside, it is `number` at that word.
unfoldable pub word_in : ℕ → ℕ → ℕ → List ℕ → ℕ → Read ℕ
word_in number least most ws at =
    cond (ltb at (length ws))
    (cond (leb least (get_or ws at 0) && leb (get_or ws at 0) most) (got (get_or ws at 0) (at + 1)) (bad number at))
    (bad SHORT (length ws))

-- STEP: "kind is neither 1 nor 2; or an unlock has a word that isn't 0; or a lock's resource is not below m or its length is outside its limits"
abbrev pub broken_step : ℕ → ℕ → ℕ → ℕ → ℕ → Bool
broken_step m c kind r l =
    cond (eqb kind 1)
    (not (ltb r m && (leb 1 l && leb l c)))
    (not (eqb kind 2 && (eqb r 0 && eqb l 0)))

-- NEST, on a lock: "lock of a resource already held by the plan; a fifth held section; an inner length above that of the section right around it"
abbrev pub broken_lock : ℕ → ℕ → List Section → Bool
broken_lock r l [] = false
broken_lock r l (s ∷ held) = holds (s ∷ held) r || (leb most_held (length (s ∷ held)) || ltb s.length l)

-- NEST, on an unlock: "unlock with nothing held"
abbrev pub nothing_held : List Section → Bool
nothing_held [] = true
nothing_held (s ∷ held) = false

-- NEST, within a step.
abbrev pub broken_nest : Step → List Section → Bool
broken_nest (lock r l) held = broken_lock r l held
broken_nest unlock held = nothing_held held

-- The step that three words say, where they say one.
abbrev pub step_said : ℕ → ℕ → ℕ → Step
step_said kind r l = cond (eqb kind 1) (lock r l) unlock

-- One step at a place, in a plan that holds `held` and has `spare` left: "a step's three words are asked for together", "Within a step 4 goes before 5".
-- CROWDED, which is 14, is asked for after both.
unfoldable pub step_in : ℕ → ℕ → List Section → List ℕ → List ℕ → ℕ → Read Step
step_in m c held spare ws at =
    let kind = get_or ws at 0 in
    let r = get_or ws (at + at_resource) 0 in
    let l = get_or ws (at + at_length) 0 in
    cond (leb (at + step_size) (length ws))
    (cond (broken_step m c kind r l)
    (bad STEP at)
    (cond (broken_nest (step_said kind r l) held)
    (bad NEST at)
    (cond (crowded (step_said kind r l) spare) (bad CROWDED at) (got (step_said kind r l) (at + step_size)))))
    (bad SHORT (length ws))

-- The rest of a plan, `left` steps from a place on: "a plan that ends holding something" is NEST at "the index after the plan's last word".
unfoldable pub plan_in : ℕ → ℕ → ℕ → List Section → List ℕ → List ℕ → ℕ → Read (List Step)
plan_in zero m c held spare ws at = cond (nothing_held held) (got [] at) (bad NEST at)
plan_in (suc left) m c held spare ws at =
    step_in m c held spare ws at and_then λ step next.
    plan_in left m c (held_after step held) (spare_after step spare) ws next and_then λ steps end.
    got (step ∷ steps) end

-- One task: "T, D, C, the number of steps s, and three words a step".
unfoldable pub task_in : ℕ → List ℕ → ℕ → Read Task
task_in m ws at =
    word_in RANGE 1 most_ticks ws at and_then λ t at₁.
    word_in RANGE 1 most_ticks ws at₁ and_then λ d at₂.
    word_in RANGE 1 most_ticks ws at₂ and_then λ c at₃.
    word_in COUNT 0 most_steps ws at₃ and_then λ s at₄.
    plan_in s m c [] (c ∷ []) ws at₄ and_then λ plan next.
    got (record { T = t; D = d; C = c; plan = plan }) next

-- `left` tasks from a place on.
unfoldable pub tasks_in : ℕ → ℕ → List ℕ → ℕ → Read (List Task)
tasks_in zero m ws at = got [] at
tasks_in (suc left) m ws at =
    task_in m ws at and_then λ task next.
    tasks_in left m ws next and_then λ tasks end.
    got (task ∷ tasks) end

-- "Word 0: number of tasks n. Word 1: number of resources m. Then for each task in order .."
abbrev pub table_read : List ℕ → Read Table
table_read ws =
    word_in COUNT 1 most_tasks ws 0 and_then λ n at₁.
    word_in COUNT 0 most_resources ws at₁ and_then λ m at₂.
    tasks_in n m ws at₂ and_then λ tasks end.
    got (record { resources = m; tasks = tasks }) end

-- What the check answers: the table, or a refusal's number and place.
pub data Checked : Type 0 where
  sound : Table → Checked
  refused : ℕ → ℕ → Checked

-- "words remain after the last task" is SHORT at "the first extra word".
abbrev pub ended : List ℕ → Read Table → Checked
ended ws (got table end) = cond (ltb end (length ws)) (refused SHORT end) (sound table)
ended ws (bad number place) = refused number place

unfoldable pub check_of : List ℕ → Checked
check_of ws = ended ws (table_read ws)
