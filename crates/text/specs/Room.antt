-- What it is to write a text into a lent buffer: it stands at the buffer's start, as much of it as the buffer has room for; what lies behind it stays.
-- A text's items are bytes, or the numbers of a table. Assumes nothing.
use Rattle.std.specs.Prelude.{ℕ, suc, min, ◌≡◌, cond, List, [], ◌∷◌, ◌++◌, ltb, length, take, drop, set}

-- The buffer with the text at its start.
unfoldable pub written : {A : Type 0} → List A → List A → List A
written text b = take (length b) (text ++ drop (length text) b)

-- How many items of the text there was room for.
abbrev pub room_for : {A : Type 0} → List A → List A → ℕ
room_for text b = min (length text) (length b)

-- A public call's promise: what the buffer has, and how much of it is the text.
pub record Written {A : Type 0} (text b b' : List A) (r : ℕ) : Type 0 where
  pub buffer : b' ≡ written text b
  pub count : r ≡ room_for text b

-- The same from a place on, as the code goes: item after item. An item for which there is no room is dropped.
abbrev pub onward : ℕ → ℕ → ℕ
onward room at = cond (ltb at room) (suc at) at

unfoldable pub lay : {A : Type 0} → List A → ℕ → List A → List A
lay b at [] = b
lay b at (c ∷ text) = lay (set b at c) (onward (length b) at) text

unfoldable pub past : {A : Type 0} → ℕ → ℕ → List A → ℕ
past room at [] = at
past room at (c ∷ text) = past room (onward room at) text

pub record Laid {A : Type 0} (text : List A) (b : List A) (at : ℕ) (b' : List A) (at' : ℕ) : Type 0 where
  pub buffer : b' ≡ lay b at text
  pub next : at' ≡ past (length b) at text
