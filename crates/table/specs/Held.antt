-- "What a job holds is read from its plan and place" (document 01): the sections that a plan's first steps leave open, innermost first.
-- Assumes nothing.
use Rattle.std.specs.Prelude.{ℕ, Bool, false, ◌||◌, List, [], ◌∷◌, eqb, take}
use Rattle.sets.specs.Member.{width, with_of}
use Rattle.table.specs.Table.{Step, lock, unlock}

-- One lock that isn't unlocked yet.
pub record Section : Type 0 where
  pub resource : ℕ
  pub length : ℕ

-- "Kind 2 unlocks the most recent one"
abbrev pub held_after : Step → List Section → List Section
held_after (lock r l) held = record { resource = r; length = l } ∷ held
held_after unlock [] = []
held_after unlock (s ∷ held) = held

-- What is held after some steps, from what was held before them.
unfoldable pub held_from : List Section → List Step → List Section
held_from held [] = held
held_from held (s ∷ steps) = held_from (held_after s held) steps

-- What a plan's first k steps hold.
abbrev pub held_by : List Step → ℕ → List Section
held_by plan k = held_from [] (take k plan)

-- Is r among the held?
unfoldable pub holds : List Section → ℕ → Bool
holds [] r = false
holds (s ∷ held) r = eqb s.resource r || holds held r

-- The held resources as a set: "one unsigned number with a bit for each member".
unfoldable pub held_set : List Section → ℕ
held_set [] = 0
held_set (s ∷ held) = with_of width (held_set held) s.resource
