-- "Show that no two different replies can satisfy one call's promise" (document 01, "Pinning down the replies"): what it means that a promise pins its answer.
-- Assumes nothing.
use Rattle.std.specs.Prelude.{◌≡◌}

-- A promise says `meaning answer ≡ value`. Two answers that both keep it are equal.
abbrev pub Pinned : {A B : Type 0} → (A → B) → B → Type 0
Pinned {A} meaning value = (r s : A) → meaning r ≡ value → meaning s ≡ value → r ≡ s

-- The meaning of a plain answer is the answer.
abbrev pub itself : {A : Type 0} → A → A
itself r = r
