-- The sections of a plan as the code keeps them, and what is left at its open levels, both innermost first. Assumes nothing.
use Rattle.std.specs.Prelude.{ℕ, suc, Bool, true, not, ◌&&◌, List, [], ◌∷◌, map, ltb, take}
use Rattle.sets.specs.Member.{width}
use Rattle.table.specs.Held.{Section, holds}
use Rattle.table.specs.declared.sections.Section as kept

abbrev pub section_of : kept.Section → Section
section_of section = record { resource = section.resource; length = section.length }

-- As many as the depth says.
abbrev pub sections_of : ℕ → List kept.Section → List Section
sections_of depth sections = map section_of (take depth sections)

-- One level more than sections.
abbrev pub spare_of : ℕ → List ℕ → List ℕ
spare_of depth spare = take (suc depth) spare

-- No resource is held twice, and each has its bit.
unfoldable pub apart : List Section → Bool
apart [] = true
apart (s ∷ held) = ltb s.resource width && (not (holds held s.resource) && apart held)
