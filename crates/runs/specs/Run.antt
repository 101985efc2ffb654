-- A run: a fresh start, then any events in any order, refused ones included (document 01). Assumes nothing.
use Rattle.std.specs.Prelude.{ℕ, List, [], ◌∷◌}
pub use Rattle.machine.specs.Event.{Event, release, step}
use Rattle.machine.specs.Reply.{EventReply}
use Rattle.dispatch.specs.Heard.{Heard}
use Rattle.dispatch.specs.Dispatch.{start_of, release_of, step_of}
use Rattle.dispatch.specs.declared.State.{State}

-- What an event hands back and says.
abbrev pub heard : State → Event → Heard
heard s (release i time) = release_of s i time
heard s (step time) = step_of s time

-- The state after some events.
unfoldable pub state_after : State → List Event → State
state_after s [] = s
state_after s (e ∷ events) = state_after (heard s e).state events

-- The replies to some events, in their order.
unfoldable pub replies : State → List Event → List EventReply
replies s [] = []
replies s (e ∷ events) = (heard s e).said ∷ replies (heard s e).state events

-- The state that a run starts from.
abbrev pub begin : List ℕ → State
begin ws = (start_of ws).state
