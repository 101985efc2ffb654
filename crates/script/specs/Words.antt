-- A line is cut at its comment and split into words at its blanks. Assumes nothing.
use Rattle.std.specs.Prelude.{ℕ, cond, List, [], ◌∷◌, eqb}
use Rattle.script.specs.Signs.{blank, hash}

-- "`#` starts a comment that runs to the line's end"
unfoldable pub cut : List ℕ → List ℕ
cut [] = []
cut (c ∷ cs) = cond (eqb c hash) [] (c ∷ cut cs)

-- A byte in front of the first word.
abbrev pub joined : ℕ → List (List ℕ) → List (List ℕ)
joined c [] = (c ∷ []) ∷ []
joined c (w ∷ ws) = (c ∷ w) ∷ ws

-- A byte that is no blank, in front of `cs`, whose words are `ws`: it belongs to the first word, or it is a word by itself where a blank or
-- nothing follows.
abbrev pub before : ℕ → List ℕ → List (List ℕ) → List (List ℕ)
before c [] ws = (c ∷ []) ∷ ws
before c (d ∷ cs) ws = cond (blank d) ((c ∷ []) ∷ ws) (joined c ws)

-- "Words are separated by blanks: spaces, tabs, carriage returns."; every byte that is no blank, those above 127 too, is part of a word.
unfoldable pub split : List ℕ → List (List ℕ)
split [] = []
split (c ∷ cs) = cond (blank c) (split cs) (before c cs (split cs))

-- The words of a line.
unfoldable pub line_words : List ℕ → List (List ℕ)
line_words line = split (cut line)
