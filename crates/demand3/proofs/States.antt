-- The states of a run at its positions, one event after the other; its replies, in their order, are what its events are answered. Assumes nothing.
use Prim.Native.Nat.{ℕ, zero, suc, ◌≤◌, ◌<◌}
use mathlib.Core.Path.{◌≡◌, refl}
use mathlib.Core.List.{List, [], ◌∷◌}
use native.Mathlib.Omega.{arith}
use lib.ListN.{length, get_or, take}
use Rattle.table.specs.Check.{Checked, sound, refused, check_of}
use Rattle.machine.specs.Reply.{EventReply}
use Rattle.machine.specs.Machine.{fresh}
use Rattle.dispatch.specs.State.{fresh_state, zero_state}
use Rattle.dispatch.specs.Dispatch.{start_from, start_of}
use Rattle.dispatch.specs.declared.State.{State}
use Rattle.runs.specs.Run.{Event, step, heard, state_after, replies, begin}
use Rattle.demand3.specs.Demand3.{state_at, event_at, reply_to}

after_one : (s : State) (events : List Event) (p : ℕ) → p < length events →
    state_after s (take (suc p) events) ≡ (heard (state_after s (take p events)) (get_or events p (step 0))).state
unfolding state_after
after_one s [] p h = absurd (omega arith)
after_one s (e ∷ events) zero h = refl
after_one s (e ∷ events) (suc p) h = after_one (heard s e).state events p (omega arith)

after_none : (s : State) (events : List Event) (p : ℕ) → length events ≤ p → state_after s (take (suc p) events) ≡ state_after s (take p events)
unfolding state_after
after_none s [] zero h = refl
after_none s [] (suc p) h = refl
after_none s (e ∷ events) zero h = absurd (omega arith)
after_none s (e ∷ events) (suc p) h = after_none (heard s e).state events p (omega arith)

-- Event p leads from position p to the next.
pub state_next : (ws : List ℕ) (events : List Event) (p : ℕ) → p < length events →
    state_at ws events (suc p) ≡ (heard (state_at ws events p) (event_at events p)).state
unfolding state_at
state_next ws events p h = after_one (begin ws) events p h

-- Behind the last event nothing changes.
pub state_last : (ws : List ℕ) (events : List Event) (p : ℕ) → length events ≤ p → state_at ws events (suc p) ≡ state_at ws events p
unfolding state_at
state_last ws events p h = after_none (begin ws) events p h

-- The replies of a run, in their order, are what its events are answered.
replies_one : (s : State) (events : List Event) (p : ℕ) (other : EventReply) → p < length events →
    get_or (replies s events) p other ≡ (heard (state_after s (take p events)) (get_or events p (step 0))).said
unfolding state_after replies
replies_one s [] p other h = absurd (omega arith)
replies_one s (e ∷ events) zero other h = refl
replies_one s (e ∷ events) (suc p) other h = replies_one (heard s e).state events p other (omega arith)

pub reply_at : (ws : List ℕ) (events : List Event) (p : ℕ) (other : EventReply) → p < length events →
    get_or (replies (begin ws) events) p other ≡ reply_to ws events p
unfolding state_at
reply_at ws events p other h = replies_one (begin ws) events p other h

-- At the start nobody is ready.
begin_fresh : (c : Checked) (ws : List ℕ) → (start_from c ws).state.kept ≡ fresh
unfolding fresh_state zero_state
begin_fresh (sound t) ws = refl
begin_fresh (refused number place) ws = refl

pub state_first : (ws : List ℕ) (events : List Event) → (state_at ws events 0).kept ≡ fresh
unfolding state_at state_after start_of
state_first ws events = begin_fresh (check_of ws) ws
