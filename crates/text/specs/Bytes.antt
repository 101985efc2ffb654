-- Texts as bytes. Assumes nothing.
use Rattle.std.specs.Prelude.{ℕ, List, [], ◌∷◌}
use Prim.Native.Char.{code}
use Prim.Native.String.{String}
use Prim.Native.String as string

-- The bytes of a text of plain letters, digits and signs, each of which is one byte.
abbrev pub bytes : String → List ℕ
bytes string.[] = []
bytes (string.◌∷◌ c cs) = code c ∷ bytes cs
