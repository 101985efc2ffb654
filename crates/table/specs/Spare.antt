-- What is left at each open level of a plan (request 105, "Sections that can't fit"), innermost first: the outermost level begins with C, a section with
-- its length, and each section takes its length from what is left right around it. Nothing is given back. Assumes nothing.
use Rattle.std.specs.Prelude.{ℕ, ◌-◌, Bool, false, List, ◌∷◌, ltb, get_or, drop}
use Rattle.table.specs.Table.{Step, lock, unlock}

-- At the innermost level.
abbrev pub spare_here : List ℕ → ℕ
spare_here spare = get_or spare 0 0

-- A lock opens a level, and an unlock closes the innermost one.
abbrev pub spare_after : Step → List ℕ → List ℕ
spare_after (lock r l) spare = l ∷ (spare_here spare - l) ∷ drop 1 spare
spare_after unlock spare = drop 1 spare

-- CROWDED: the lock step "that goes over".
abbrev pub crowded : Step → List ℕ → Bool
crowded (lock r l) spare = ltb (spare_here spare) l
crowded unlock spare = false
