-- What the functions of the check answer one another, as readings of `check_of`. The promises of `survey` and `check` speak of `check_of` and `map_of`
-- alone; these definitions serve the functions below them. Assumes nothing.
use Rattle.std.specs.Prelude.{ℕ, ◌≡◌, ◌+◌, false, cond, List, [], ◌∷◌, Result, Ok, Err}
use Rattle.numbers.specs.Answers.{NEST, CROWDED}
use Rattle.table.specs.Limits.{step_size}
use Rattle.table.specs.Table.{Step, lock, unlock}
use Rattle.table.specs.Held.{Section, held_after}
use Rattle.table.specs.Spare.{spare_after, crowded}
use Rattle.table.specs.Check.{Read, got, bad, broken_step, broken_nest, step_said, step_in, plan_in}
use Rattle.table.specs.Said.{refusal_said, number_in, place_in}
use Rattle.table.specs.Levels.{sections_of, spare_of}
use Rattle.table.specs.declared.Finding.{Finding}
use Rattle.table.specs.declared.sections.Sections.{Sections}
use Rattle.table.specs.declared.walk.Head.{Head}
use Rattle.table.specs.declared.steps.Step as step_type
use Rattle.table.specs.declared.steps.Step.TheVariants as step

-- A refusal as a reading.
abbrev pub refusal_read : {A : Type 0} → Finding → Read A
refusal_read finding = bad (number_in (refusal_said finding)) (place_in (refusal_said finding))

-- A word that was asked for, and the place behind it; or the refusal.
abbrev pub word_read : Result ℕ Finding → ℕ → Read ℕ
word_read (Ok word) next = got word next
word_read (Err finding) next = refusal_read finding

-- Where a reading ends, whatever it reads: the place behind it, or a refusal's number and place.
abbrev pub end_of : {A : Type 0} → Read A → Read (Unit {0})
end_of (got x place) = got tt place
end_of (bad number place) = bad number place

-- What an answer says of that: the place behind what was read, or the refusal.
abbrev pub end_read : Result ℕ Finding → Read (Unit {0})
end_read (Ok end) = got tt end
end_read (Err finding) = refusal_read finding

-- A step as the code has it.
abbrev pub as_step : step_type.Step → Step
as_step (step.Lock r l) = lock r l
as_step step.Unlock = unlock

-- Three words that are sound by themselves, as the step that they say.
pub record SoundStep (m c kind r l : ℕ) (step : step_type.Step) : Type 0 where
  pub sound : broken_step m c kind r l ≡ false
  pub says : as_step step ≡ step_said kind r l

-- Where a plan stands: what it holds, and what is left at the open levels.
pub record Standing : Type 0 where
  pub held : List Section
  pub spare : List ℕ

-- At its start it holds nothing and has C left.
abbrev pub standing_first : ℕ → Standing
standing_first c = record { held = []; spare = c ∷ [] }

abbrev pub standing_after : Step → Standing → Standing
standing_after step standing = record { held = held_after step standing.held; spare = spare_after step standing.spare }

-- What the code keeps of it.
abbrev pub sections_in : Sections → List Section
sections_in sections = sections_of sections.depth sections.sections

abbrev pub spare_in : Sections → List ℕ
spare_in sections = spare_of sections.depth sections.spare

abbrev pub standing_in : Sections → Standing
standing_in sections = record { held = sections_in sections; spare = spare_in sections }

-- Where a step leaves the plan, and the place behind it; or the refusal.
abbrev pub standing_read : Result Sections Finding → ℕ → Read Standing
standing_read (Ok sections) next = got (standing_in sections) next
standing_read (Err finding) next = refusal_read finding

-- A step that is sound by itself.
abbrev pub judged : Step → Standing → ℕ → Read Standing
judged step standing at =
    cond (broken_nest step standing.held)
    (bad NEST at)
    (cond (crowded step standing.spare) (bad CROWDED at) (got (standing_after step standing) (at + step_size)))

-- Where it stands behind a step.
abbrev pub standing_behind : Standing → Read Step → Read Standing
standing_behind standing (got step next) = got (standing_after step standing) next
standing_behind standing (bad number place) = bad number place

abbrev pub step_from : ℕ → ℕ → Standing → List ℕ → ℕ → Read Standing
step_from m c standing ws at = standing_behind standing (step_in m c standing.held standing.spare ws at)

-- Its rest.
abbrev pub plan_from : ℕ → ℕ → ℕ → Standing → List ℕ → ℕ → Read (List Step)
plan_from left m c standing ws at = plan_in left m c standing.held standing.spare ws at

-- What is left of a task behind its first words: its plan; or the refusal.
abbrev pub plan_read : Result Head Finding → ℕ → List ℕ → ℕ → Read (Unit {0})
plan_read (Ok head) m ws at = end_of (plan_from head.steps m head.cost (standing_first head.cost) ws at)
plan_read (Err finding) m ws at = refusal_read finding
