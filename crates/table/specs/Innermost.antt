-- The innermost of the sections that are held: the one that an unlock gives back, "Kind 2 unlocks the most recent one" (document 01). Assumes nothing.
use Rattle.std.specs.Prelude.{ℕ, zero, suc, List, [], ◌∷◌}
use Rattle.table.specs.Held.{Section}

-- The resource of the section that lies around as many others; 0 where there is none.
unfoldable pub open_at : ℕ → List Section → ℕ
open_at d [] = 0
open_at zero (s ∷ held) = s.resource
open_at (suc d) (s ∷ held) = open_at d held

abbrev pub innermost_of : List Section → ℕ
innermost_of held = open_at 0 held
