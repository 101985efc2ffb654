-- "Given exactly when" (document 01, "When an event is turned away"): each number is given exactly when its own ground holds and none above it does,
-- and an event is accepted exactly when no ground holds. Cited from the laws of `given`. Assumes nothing.
use Prim.Native.Nat.{ℕ}
use mathlib.Core.Path.{◌≡◌}
use mathlib.Core.Logic.{◌↔◌}
use Rattle.machine.specs.Event.{Event, release, step}
use Rattle.machine.specs.Reply.{refused, Accepted}
use Rattle.machine.specs.Moves.{accepted}
use Rattle.machine.specs.Away.{Given, NoGround}
use Rattle.machine.proofs.Given.{given_exactly, given_accepted}
use Rattle.machine.proofs.Moves.{accepted_ok}
use Rattle.dispatch.specs.State.{table_in}
use Rattle.dispatch.specs.Dispatch as dispatch
use Rattle.dispatch.specs.Dispatch.{grounds_in}
use Rattle.dispatch.specs.declared.State.{State}

-- An event is turned away with a number exactly when that number's ground holds and none above it does.
pub event_exactly : (s : State) (e : Event) (number : ℕ) → ((dispatch.event_of s e).said ≡ refused number) ↔ Given number (grounds_in s e)
event_exactly s e number = given_exactly (grounds_in s e) s.kept (accepted (table_in s) s.kept e) (accepted_ok (table_in s) s.kept e) number

-- It is accepted exactly when no ground holds.
pub event_accepted : (s : State) (e : Event) → Accepted (dispatch.event_of s e).said ↔ NoGround (grounds_in s e)
event_accepted s e = given_accepted (grounds_in s e) s.kept (accepted (table_in s) s.kept e) (accepted_ok (table_in s) s.kept e)

-- ---- of the two calls

pub release_exactly : (s : State) (i time number : ℕ) →
    ((dispatch.release_of s i time).said ≡ refused number) ↔ Given number (grounds_in s (release i time))
unfolding dispatch.release_of
release_exactly s i time number = event_exactly s (release i time) number

pub release_accepted : (s : State) (i time : ℕ) → Accepted (dispatch.release_of s i time).said ↔ NoGround (grounds_in s (release i time))
unfolding dispatch.release_of
release_accepted s i time = event_accepted s (release i time)

pub step_exactly : (s : State) (time number : ℕ) → ((dispatch.step_of s time).said ≡ refused number) ↔ Given number (grounds_in s (step time))
unfolding dispatch.step_of
step_exactly s time number = event_exactly s (step time) number

pub step_accepted : (s : State) (time : ℕ) → Accepted (dispatch.step_of s time).said ↔ NoGround (grounds_in s (step time))
unfolding dispatch.step_of
step_accepted s time = event_accepted s (step time)
