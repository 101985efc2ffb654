-- What an event does to a state that is not torn: a ground of the machine's table turns it away and the state comes back equal, or it is a move.
-- Assumes nothing.
use Prim.Native.Nat.{ℕ}
use mathlib.Core.Path.{◌≡◌, refl, sym, ap, ◌∙◌}
use mathlib.Core.Logic.{◌≢◌}
use mathlib.Core.Bool.{false}
use native.Mathlib.Omega.{arith}
use Rattle.std.specs.Prelude.{Option}
use Rattle.table.specs.Table.{Table}
use Rattle.numbers.specs.Answers.{TORN}
use Rattle.numbers.proofs.Tests.{never}
use Rattle.machine.specs.Order.{who_runs}
use Rattle.machine.specs.Reply.{EventReply, refused}
use Rattle.machine.specs.Away.{Given, grounds_of}
use Rattle.machine.specs.declared.Kept.{Kept}
use Rattle.machine.proofs.Given.{Decided, away, on, decided, given_each}
use Rattle.machine.proofs.Moves.{Moving, releases, locks, unlocks, finishes, moving, event_away, event_on}
use Rattle.dispatch.specs.State.{state_of, table_in}
use Rattle.dispatch.specs.Torn.{torn}
use Rattle.dispatch.specs.Dispatch.{after, event_of, release_of, step_of}
use Rattle.dispatch.specs.declared.State.{State}
use Rattle.dispatch.proofs.Grounds.{event_whole}
use Rattle.runs.specs.Run.{Event, release, step, heard}

-- The state with something else kept; its words stay.
abbrev pub at_now : State → Kept → State
at_now s kept = state_of s.words s.length kept

-- What a state that is not torn does with an event.
pub data Moved (s : State) (e : Event) : Type 0 where
  refuses : (number : ℕ) → Given number (grounds_of (table_in s) s.kept e) → heard s e ≡ record { state = s; said = refused number } → Moved s e
  accepts : (next : Kept) (said : EventReply) → Moving who_runs (table_in s) s.kept e next said →
      heard s e ≡ record { state = at_now s next; said = said } → Moved s e

heard_is : (s : State) (e : Event) → heard s e ≡ event_of s e
unfolding release_of step_of
heard_is s (release i time) = refl
heard_is s (step time) = refl

-- Every event on a state that is not torn is refused with the state equal, or is a move.
pub moves : (s : State) → torn s ≡ false → (e : Event) → Moved s e
moves s ok e = go (decided (grounds_of (table_in s) s.kept e))
  where
    go : Decided (grounds_of (table_in s) s.kept e) → Moved s e
    go (away number g) =
        refuses number g (heard_is s e ∙ sym (event_whole s e ok) ∙ ap (after s) (event_away (table_in s) s.kept e number g))
    go (on n) =
        accepts _ _ (moving (table_in s) s.kept e n) (heard_is s e ∙ sym (event_whole s e ok) ∙ ap (after s) (event_on (table_in s) s.kept e n))

-- ---- what is said tells which it was

-- A move is not answered by a refusal.
pub move_accepted : {who : Kept → Option ℕ} {table : Table} {kept next : Kept} {e : Event} {said : EventReply} (number : ℕ) →
    Moving who table kept e next said → said ≡ refused number → ⊥
move_accepted number (releases i time free) h = never (cc)
move_accepted number (locks i r l time steps next alone) h = never (cc)
move_accepted number (unlocks i time steps next) h = never (cc)
move_accepted number (finishes i time steps next) h = never (cc)

-- A refusal's number tells its ground.
pub refused_why : (s : State) (e : Event) (number : ℕ) → Moved s e → (heard s e).said ≡ refused number → Given number (grounds_of (table_in s) s.kept e)
refused_why s e number (refuses given why is) h =
    let same : given ≡ number = cc in
    rw same at why
refused_why s e number (accepts next said move is) h = absurd (move_accepted number move (cc))

-- None of these grounds is TORN.
pub refusal_whole : (table : Table) (kept : Kept) (e : Event) (number : ℕ) → Given number (grounds_of table kept e) → number ≢ TORN
refusal_whole table kept (release i time) number g =
    given_each (λ n. n ≢ TORN) g
    ((λ h. omega arith), ((λ h. omega arith), ((λ h. omega arith), ((λ h. omega arith), ((λ h. omega arith), tt)))))
refusal_whole table kept (step time) number g =
    given_each (λ n. n ≢ TORN) g ((λ h. omega arith), ((λ h. omega arith), ((λ h. omega arith), ((λ h. omega arith), tt))))
