-- What an event hands back: a refused one the state as it came, "clock included"; an accepted one the same words and the clock at its time.
-- Cited from the laws of `given`. Assumes nothing.
use Prim.Native.Nat.{ℕ}
use mathlib.Core.Path.{◌≡◌, refl, ap, ◌∙◌}
use Rattle.machine.specs.Event.{Event, release, step, time_of}
use Rattle.machine.specs.Reply.{refused, Accepted}
use Rattle.machine.specs.Moves.{Outcome, accepted}
use Rattle.machine.specs.declared.Kept.{Kept}
use Rattle.machine.proofs.Given.{given_unchanged, given_on}
use Rattle.machine.proofs.Moves.{accepted_ok, accepted_clock}
use Rattle.dispatch.specs.State.{state_of, table_in}
use Rattle.dispatch.specs.Dispatch as dispatch
use Rattle.dispatch.specs.Dispatch.{grounds_in}
use Rattle.dispatch.specs.declared.State.{State}

-- "The reply is the number alone; the state comes back equal, clock included."
pub event_unchanged : (s : State) (e : Event) (number : ℕ) → (dispatch.event_of s e).said ≡ refused number → (dispatch.event_of s e).state ≡ s
event_unchanged s e number h =
    ap (λ (kept : Kept). state_of s.words s.length kept)
    (given_unchanged (grounds_in s e) s.kept (accepted (table_in s) s.kept e) (accepted_ok (table_in s) s.kept e) number h)

-- An accepted event is its move.
pub event_on : (s : State) (e : Event) → Accepted (dispatch.event_of s e).said → dispatch.event_of s e ≡ dispatch.after s (accepted (table_in s) s.kept e)
event_on s e ok =
    ap (dispatch.after s)
    (given_on (grounds_in s e) s.kept (accepted (table_in s) s.kept e) (accepted_ok (table_in s) s.kept e) ok)

-- "An accepted event sets the clock to its time."
pub event_clock : (s : State) (e : Event) → Accepted (dispatch.event_of s e).said → (dispatch.event_of s e).state.kept.clock ≡ time_of e
event_clock s e ok =
    ap (λ (out : Outcome). out.kept.clock)
    (given_on (grounds_in s e) s.kept (accepted (table_in s) s.kept e) (accepted_ok (table_in s) s.kept e) ok)
    ∙ accepted_clock (table_in s) s.kept e

-- ---- of the two calls

pub release_unchanged : (s : State) (i time number : ℕ) → (dispatch.release_of s i time).said ≡ refused number → (dispatch.release_of s i time).state ≡ s
unfolding dispatch.release_of
release_unchanged s i time number h = event_unchanged s (release i time) number h

pub step_unchanged : (s : State) (time number : ℕ) → (dispatch.step_of s time).said ≡ refused number → (dispatch.step_of s time).state ≡ s
unfolding dispatch.step_of
step_unchanged s time number h = event_unchanged s (step time) number h

pub release_clock : (s : State) (i time : ℕ) → Accepted (dispatch.release_of s i time).said → (dispatch.release_of s i time).state.kept.clock ≡ time
unfolding dispatch.release_of
release_clock s i time ok = event_clock s (release i time) ok

pub step_clock : (s : State) (time : ℕ) → Accepted (dispatch.step_of s time).said → (dispatch.step_of s time).state.kept.clock ≡ time
unfolding dispatch.step_of
step_clock s time ok = event_clock s (step time) ok

-- No event changes the words or how many of them are in use.
pub release_words : (s : State) (i time : ℕ) →
    ((dispatch.release_of s i time).state.words ≡ s.words) × ((dispatch.release_of s i time).state.length ≡ s.length)
unfolding dispatch.release_of
release_words s i time = (refl, refl)

pub step_words_lem : (s : State) (time : ℕ) → ((dispatch.step_of s time).state.words ≡ s.words) × ((dispatch.step_of s time).state.length ≡ s.length)
unfolding dispatch.step_of
step_words_lem s time = (refl, refl)
