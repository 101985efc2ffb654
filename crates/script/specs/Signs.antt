-- The bytes that mean something in a line. Assumes nothing.
use Rattle.std.specs.Prelude.{ℕ, Bool, true, false, ◌&&◌, ◌||◌, List, [], ◌∷◌, eqb, leb}

-- "Words are separated by blanks: spaces, tabs, carriage returns."
abbrev pub blank : ℕ → Bool
blank c = eqb c 32 || (eqb c 9 || eqb c 13)

-- "`#` starts a comment that runs to the line's end, also right behind a word."
abbrev pub hash : ℕ
hash = 35

-- `0` to `9`
abbrev pub is_digit : ℕ → Bool
is_digit c = leb 48 c && leb c 57

-- Two words are the same, byte for byte.
unfoldable pub same : List ℕ → List ℕ → Bool
same [] [] = true
same [] (d ∷ w) = false
same (c ∷ v) [] = false
same (c ∷ v) (d ∷ w) = eqb c d && same v w
