-- What each refusal of the check tells of the words (document 01, "When the table check says no"): at its place a word, a step or a plan breaks
-- that rule. Stated by places alone, apart from the reading of the check; every refusal has such a ground (law `refused_breaks`). Which of several
-- broken words comes first is `check_of`.
-- Assumes nothing.
use Rattle.std.specs.Prelude.{ℕ, zero, suc, ◌+◌, ◌*◌, ◌≤◌, ◌<◌, ◌≡◌, true, false, List, [], ◌∷◌, length, get_or, take}
use Rattle.numbers.specs.Answers.{SHORT, COUNT, RANGE, STEP, NEST, CROWDED}
use Rattle.table.specs.Limits.{most_tasks, most_resources, most_ticks, most_steps, at_tasks, at_period, at_deadline, at_cost, at_steps, at_plan, step_size, at_resource, at_length}
use Rattle.table.specs.Table.{Table}
use Rattle.table.specs.Held.{Section, held_from}
use Rattle.table.specs.Claims.{Level, unclaimed, level_here, levels_from, Over}
use Rattle.table.specs.Check.{broken_step, broken_nest, nothing_held, step_said}
use Rattle.table.specs.Valid.{Valid}
use Rattle.table.specs.Map.{steps_at, behind}
use Rattle.table.specs.Words.{words_of}

-- Where task i starts, and its step k.
unfoldable pub task_start : List ℕ → ℕ → ℕ
task_start ws zero = at_tasks
task_start ws (suc i) = behind ws (task_start ws i)

abbrev pub step_start : List ℕ → ℕ → ℕ → ℕ
step_start ws i k = task_start ws i + at_plan + step_size * k

-- n, m, and the C and s of task i, as they lie.
abbrev pub n_in : List ℕ → ℕ
n_in ws = get_or ws 0 0

abbrev pub m_in : List ℕ → ℕ
m_in ws = get_or ws 1 0

abbrev pub cost_in : List ℕ → ℕ → ℕ
cost_in ws i = get_or ws (task_start ws i + at_cost) 0

abbrev pub steps_in : List ℕ → ℕ → ℕ
steps_in ws i = get_or ws (task_start ws i + at_steps) 0

-- What the first k steps of task i hold.
abbrev pub held_before : List ℕ → ℕ → ℕ → List Section
held_before ws i k = held_from [] (steps_at k ws (task_start ws i + at_plan))

-- The levels that they leave open.
abbrev pub levels_before : List ℕ → ℕ → ℕ → List Level
levels_before ws i k = levels_from (unclaimed (cost_in ws i) ∷ []) (steps_at k ws (task_start ws i + at_plan))

-- A word that is there and outside its limits.
pub data Outside (least most : ℕ) (ws : List ℕ) (place : ℕ) : Type 0 where
  below : place < length ws → get_or ws place 0 < least → Outside least most ws place
  above : place < length ws → most < get_or ws place 0 → Outside least most ws place

-- Step k of task i is there.
pub record StepThere (ws : List ℕ) (i k : ℕ) : Type 0 where
  pub task : i < n_in ws
  pub step : k < steps_in ws i
  pub there : step_start ws i k + step_size ≤ length ws

-- A refusal's number and place, and its ground.
pub data Broken (ws : List ℕ) : ℕ → ℕ → Type 0 where
  -- "a wanted word isn't there": "the list's length"
  missing : Broken ws SHORT (length ws)
  -- "words remain after the last task": "the first extra word"
  extra : (t : Table) (place : ℕ) → Valid t → take place ws ≡ words_of t → place < length ws → Broken ws SHORT place
  -- "n, m or s is outside its limits"
  tasks : Outside 1 most_tasks ws 0 → Broken ws COUNT 0
  resources : Outside 0 most_resources ws 1 → Broken ws COUNT 1
  steps : (i : ℕ) → i < n_in ws → Outside 0 most_steps ws (task_start ws i + at_steps) → Broken ws COUNT (task_start ws i + at_steps)
  -- "T, D or C is outside its limits"
  period : (i : ℕ) → i < n_in ws → Outside 1 most_ticks ws (task_start ws i + at_period) → Broken ws RANGE (task_start ws i + at_period)
  deadline : (i : ℕ) → i < n_in ws → Outside 1 most_ticks ws (task_start ws i + at_deadline) → Broken ws RANGE (task_start ws i + at_deadline)
  cost : (i : ℕ) → i < n_in ws → Outside 1 most_ticks ws (task_start ws i + at_cost) → Broken ws RANGE (task_start ws i + at_cost)
  -- STEP's grounds: "the step's first word"
  step : (i k : ℕ) → StepThere ws i k →
      broken_step (m_in ws) (cost_in ws i) (get_or ws (step_start ws i k) 0) (get_or ws (step_start ws i k + at_resource) 0) (get_or ws (step_start ws i k + at_length) 0) ≡ true →
      Broken ws STEP (step_start ws i k)
  -- NEST's grounds within a step, held against what the steps before it hold: "the step's first word"
  nest : (i k : ℕ) → StepThere ws i k →
      broken_nest (step_said (get_or ws (step_start ws i k) 0) (get_or ws (step_start ws i k + at_resource) 0) (get_or ws (step_start ws i k + at_length) 0)) (held_before ws i k) ≡ true →
      Broken ws NEST (step_start ws i k)
  -- "the lock step that goes over" (request 105): the lengths at its level, this one included, are above the room around them
  crowded : (i k : ℕ) → StepThere ws i k → get_or ws (step_start ws i k) 0 ≡ 1 →
      Over (get_or ws (step_start ws i k + at_length) 0) (level_here (levels_before ws i k)) → Broken ws CROWDED (step_start ws i k)
  -- "a plan that ends holding something": "the index after the plan's last word"
  holding : (i : ℕ) → i < n_in ws → nothing_held (held_before ws i (steps_in ws i)) ≡ false → Broken ws NEST (step_start ws i (steps_in ws i))
