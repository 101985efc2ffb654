-- What an event answers, in document 01's numbers and values. Assumes nothing.
use Rattle.std.specs.Prelude.{ℕ, ℤ}

-- "'runs' with task number and active deadline, or 'idle'"
pub data Turn : Type 0 where
  runs : ℕ → ℕ → Turn
  idle : Turn

-- A refusal's "number alone"; or who runs; "a finish adds its lateness".
pub data EventReply : Type 0 where
  refused : ℕ → EventReply
  went_on : Turn → EventReply
  finished : ℤ → Turn → EventReply

-- An event that isn't turned away.
abbrev pub Accepted : EventReply → Type 0
Accepted (refused number) = ⊥
Accepted (went_on turn) = Unit {0}
Accepted (finished late turn) = Unit {0}
