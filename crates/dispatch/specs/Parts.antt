-- What the parts of an event answer and what they may count on. Nothing here is said to a caller: `Dispatch` is. Assumes nothing.
use Rattle.std.specs.Prelude.{ℕ, cond, ltb, leb, ℤ, Option, Result, Ok, Err}
use Rattle.table.specs.Limits.{end_of_time}
use Rattle.machine.specs.Machine.{turn_of}
use Rattle.machine.specs.Moves.{Outcome}
use Rattle.machine.specs.declared.Kept.{Kept}
use Rattle.dispatch.specs.Heard.{went_with}
use Rattle.dispatch.specs.declared.Refusal.{Refusal}
use Rattle.dispatch.specs.declared.Refusal.TheVariants.{Back, End}

-- BACK and END: "the time is before the clock (equal is allowed)"; "the time is 2^40 or more".
abbrev pub in_time_of : ℕ → ℕ → Result (Unit {0}) Refusal
in_time_of clock time = cond (ltb time clock) (Err Back) (cond (leb end_of_time time) (Err End) (Ok tt))

-- What is kept after a move, and then the turn; "a finish adds its lateness".
abbrev pub goes_on : Option ℤ → Kept → Outcome
goes_on late kept = record { kept = kept; said = went_with late (turn_of kept) }
