-- The sections of a plan by sums: "Refuse a plan whose outermost lengths add up to more than C, or whose sections directly inside one section add up to
-- more than its length" (request 105). Stated apart from the check, which goes by what is left. Assumes nothing.
use Rattle.std.specs.Prelude.{ℕ, ◌+◌, ◌≤◌, ◌<◌, List, [], ◌∷◌, get_or, drop}
use Rattle.table.specs.Table.{Step, lock, unlock}

-- An open level: the room there, which is C or the length of the section around, and the sum of the lengths of the sections opened directly in it.
pub record Level : Type 0 where
  pub room : ℕ
  pub claimed : ℕ

-- A level of that room in which nothing was opened yet.
abbrev pub unclaimed : ℕ → Level
unclaimed l = record { room = l; claimed = 0 }

-- With one section more.
abbrev pub claiming : Level → ℕ → Level
claiming level l = record { room = level.room; claimed = level.claimed + l }

-- The innermost of the open levels; where none is open there is no room.
abbrev pub level_here : List Level → Level
level_here levels = get_or levels 0 (unclaimed 0)

-- The open levels after a step, innermost first.
abbrev pub levels_after : Step → List Level → List Level
levels_after (lock r l) levels = unclaimed l ∷ claiming (level_here levels) l ∷ drop 1 levels
levels_after unlock levels = drop 1 levels

-- After some steps.
unfoldable pub levels_from : List Level → List Step → List Level
levels_from levels [] = levels
levels_from levels (s ∷ steps) = levels_from (levels_after s levels) steps

-- The lengths at a level, one of l included, are above the room there.
abbrev pub Over : ℕ → Level → Type 0
Over l level = level.room < level.claimed + l

-- The rest of a plan, from these levels on: no lock goes over.
pub data Fitting : List Level → List Step → Type 0 where
  finishes : {levels : List Level} → Fitting levels []
  opens : {levels : List Level} {steps : List Step} {r l : ℕ} → (level_here levels).claimed + l ≤ (level_here levels).room →
      Fitting (levels_after (lock r l) levels) steps → Fitting levels (lock r l ∷ steps)
  closes : {levels : List Level} {steps : List Step} → Fitting (levels_after unlock levels) steps → Fitting levels (unlock ∷ steps)
