-- The states of a run: the words stay, the table stays, and what is kept has its shape; with it goes any invariant that the fresh start has and every move
-- keeps. Induction over the events: a refused event changes nothing, and an accepted one is a move. Assumes nothing.
use Prim.Native.Nat.{ℕ}
use mathlib.Core.Path.{◌≡◌, refl, ap}
use mathlib.Core.Bool.{false}
use mathlib.Core.List.{List, [], ◌∷◌}
use lib.ListN.{length}
use Rattle.table.specs.Limits.{room}
use Rattle.table.specs.Table.{Table}
use Rattle.table.specs.Check.{Checked, sound, check_of}
use Rattle.table.specs.Map.{padded}
use Rattle.table.specs.Valid.{Valid}
use Rattle.table.proofs.Padded.{padded_take}
use Rattle.table.proofs.Laws.{checked_valid, sound_length}
use Rattle.machine.specs.Order.{who_runs}
use Rattle.machine.specs.Reply.{EventReply, refused}
use Rattle.numbers.specs.Answers.{TORN}
use Rattle.machine.specs.Machine.{fresh}
use Rattle.machine.specs.declared.Kept.{Kept}
use Rattle.machine.proofs.Order.{who_ready}
use Rattle.dispatch.specs.State.{words_in, table_in, fresh_state}
use Rattle.dispatch.specs.Torn.{torn}
use Rattle.dispatch.specs.Dispatch.{start_from, start_of}
use Rattle.dispatch.specs.declared.State.{State}
use Rattle.runs.specs.Run.{Event, heard, state_after, begin}
use Rattle.machine.proofs.Moves.{Moving}
use Rattle.runs.proofs.Moves.{Moved, refuses, accepts, moves, refused_why, refusal_whole}
use Rattle.runs.proofs.Shape.{Shape, fresh_shape, kept_shape}
use Rattle.runs.proofs.Torn.{table_in_lem, shape_untorn}

-- A state over the words ws, which are a sound list and say `table`: the words have stayed, and what is kept has its shape.
pub record Reached (ws : List ℕ) (table : Table) (s : State) : Type 0 where
  pub words : s.words ≡ padded room ws
  pub long : s.length ≡ length ws
  pub shape : Shape table s.kept

-- What the fresh start has and every move over the table keeps.
pub record Invariant (table : Table) (Inv : Kept → Type 0) : Type 0 where
  pub begins : Inv fresh
  pub keeps : {kept next : Kept} {e : Event} {said : EventReply} → Moving who_runs table kept e next said → Shape table kept → Inv kept → Inv next

pub record ReachedWith (ws : List ℕ) (table : Table) (Inv : Kept → Type 0) (s : State) : Type 0 where
  pub reached : Reached ws table s
  pub inv : Inv s.kept

module _ (ws : List ℕ) (table : Table) (ok : check_of ws ≡ sound table) where
  valid : Valid table
  valid = checked_valid ws table ok

  pub words_in_lem : {s : State} → Reached ws table s → words_in s ≡ ws
  words_in_lem r = rw (r.long, r.words) (padded_take room ws (sound_length ws table ok))

  pub table_stays : {s : State} → Reached ws table s → table_in s ≡ table
  table_stays {s} r = table_in_lem s (rw (words_in_lem r) ok)

  -- A state of a run is never torn.
  pub reached_whole : {s : State} → Reached ws table s → torn s ≡ false
  reached_whole {s} r = shape_untorn valid s (rw r.long (sound_length ws table ok)) (rw (words_in_lem r) ok) r.shape

  -- Every event on it is a refusal or a move.
  pub reached_moves : {s : State} → Reached ws table s → (e : Event) → Moved s e
  reached_moves {s} r e = moves s (reached_whole r) e

  -- ---- the start

  begin_fresh : begin ws ≡ fresh_state ws (length ws)
  unfolding start_of
  begin_fresh = ap (λ (c : Checked). (start_from c ws).state) ok

  pub begin_reached : Reached ws table (begin ws)
  unfolding fresh_state
  begin_reached = rw begin_fresh (record { words = refl; long = refl; shape = fresh_shape table })

  -- ---- an event

  pub next_reached : (s : State) (e : Event) → Reached ws table s → Moved s e → Reached ws table (heard s e).state
  next_reached s e r (refuses number why is) = rw is r
  next_reached s e r (accepts next said move is) =
      rw is (record {
        words = r.words;
        long = r.long;
        shape = kept_shape who_runs (λ kept i e. (who_ready kept i e).1) valid (rw (table_stays r) at move) r.shape;
      })

  module _ (Inv : Kept → Type 0) (holds : Invariant table Inv) where
    next_kept : (s : State) (e : Event) → ReachedWith ws table Inv s → Moved s e → Inv (heard s e).state.kept
    next_kept s e k (refuses number why is) = rw is k.inv
    next_kept s e k (accepts next said move is) =
        rw is (holds.keeps (rw (table_stays k.reached) at move) k.reached.shape k.inv)

    -- ---- the run

    run_kept : (s : State) (events : List Event) → ReachedWith ws table Inv s → ReachedWith ws table Inv (state_after s events)
    unfolding state_after
    run_kept s [] k = k
    run_kept s (e ∷ events) k =
        let m : Moved s e = reached_moves k.reached e in
        run_kept (heard s e).state events (record { reached = next_reached s e k.reached m; inv = next_kept s e k m })

    begin_inv : Inv (begin ws).kept
    unfolding fresh_state
    begin_inv = rw begin_fresh holds.begins

    -- Every state of every run has the invariant, and what it rests on.
    pub begin_kept : (events : List Event) → ReachedWith ws table Inv (state_after (begin ws) events)
    begin_kept events = run_kept (begin ws) events (record { reached = begin_reached; inv = begin_inv })

  -- Every state of every run.
  pub run_reached : (events : List Event) → Reached ws table (state_after (begin ws) events)
  run_reached events = (begin_kept (λ kept. Unit {0}) (record { begins = tt; keeps = λ move shape inv. tt }) events).reached

-- "A state is torn exactly when ..": a state that our own calls handed out never is, so no event on it is answered TORN.
pub never_torn_lem : (ws : List ℕ) (table : Table) → check_of ws ≡ sound table → (events : List Event) (e : Event) →
    (heard (state_after (begin ws) events) e).said ≡ refused TORN → ⊥
never_torn_lem ws table ok events e h =
    let s : State = state_after (begin ws) events in
    refusal_whole (table_in s) s.kept e TORN (refused_why s e TORN (reached_moves ws table ok (run_reached ws table ok events) e) h) refl
