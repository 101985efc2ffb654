-- Demand 3, proved: for every list of words that passes the check, every run from it and every position in it. The parts come from elsewhere: never torn from
-- Reached, never held, never stuck and mutual exclusion from Exclusion, the blocking sentences from Blocking; here they are put together.
-- Assumes nothing but that the words pass the check.
use Prim.Native.Nat.{ℕ, ◌<◌}
use mathlib.Core.Path.{◌≡◌, refl, sym, ap, ◌∙◌, subst}
use mathlib.Core.Bool.{true}
use mathlib.Core.List.{List}
use mathlib.Core.Logic.{◌⊎◌, inl, inr}
use lib.ListN.{length, take}
use Rattle.std.proofs.lemmas.Bool.{cases_eq}
use Rattle.std.specs.Prelude.{Some}
use Rattle.sets.proofs.Digit.{has_some}
use Rattle.table.specs.Table.{Table}
use Rattle.table.specs.Check.{sound, check_of}
use Rattle.table.specs.Held.{holds}
use Rattle.table.specs.Valid.{Valid}
use Rattle.table.proofs.Laws.{checked_valid}
use Rattle.machine.specs.Order.{row_of, who_runs}
use Rattle.machine.specs.Reply.{refused}
use Rattle.numbers.specs.Answers.{TORN, BACK, END, HELD}
use Rattle.runs.specs.Run.{Event, step, heard, state_after, begin}
use Rattle.demand3.specs.Demand3.{state_at, event_at, reply_to, held, Ready, Running, Blocked, Demand3}
use Rattle.runs.proofs.Reached.{never_torn_lem}
use Rattle.demand3.proofs.Exclusion.{never_held_lem, never_stuck_lem, mutual_exclusion_lem, no_deadlock_lem}
use Rattle.demand3.proofs.Ready.{runner_ready}
use Rattle.demand3.proofs.Blocking.{good, facts, blocked_unturned, blocked_inside, blocked_by_one}

module _ (ws : List ℕ) (table : Table) (ok : check_of ws ≡ sound table) where
  valid : Valid table
  valid = checked_valid ws table ok

  no_torn : (events : List Event) (p : ℕ) → p < length events → ¬ (reply_to ws events p ≡ refused TORN)
  unfolding state_at
  no_torn events p l e = never_torn_lem ws table ok (take p events) (event_at events p) e

  no_held : (events : List Event) (p : ℕ) → p < length events → ¬ (reply_to ws events p ≡ refused HELD)
  unfolding state_at
  no_held events p l e = never_held_lem ws table ok (take p events) (event_at events p) e

  not_stuck : (events : List Event) (p i x time number : ℕ) → p < length events → event_at events p ≡ step time → Ready (state_at ws events p) i x →
      reply_to ws events p ≡ refused number → (number ≡ BACK) ⊎ (number ≡ END)
  unfolding state_at
  not_stuck events p i x time number l e h r =
      never_stuck_lem ws table ok (take p events) time number (has_some _ i h.ready)
      (subst (λ (event : Event). (heard (state_after (begin ws) (take p events)) event).said ≡ refused number) e r)

  exclusion : (events : List Event) (p i j x y r : ℕ) → Ready (state_at ws events p) i x → Ready (state_at ws events p) j y →
      holds (held (state_at ws events p) i) r ≡ true → holds (held (state_at ws events p) j) r ≡ true → x ≡ y
  unfolding state_at
  exclusion events p i j x y r h k a b = elim (cases_eq i j) [
    | inl e ↦ sym h.number ∙ ap (λ (k : ℕ). (row_of (state_after (begin ws) (take p events)).kept k).number) e ∙ k.number
    | inr n ↦ absurd (mutual_exclusion_lem ws table ok (take p events) i j r n h.ready k.ready a b)
  ]

  -- Where a job is ready somebody runs, and who runs is ready.
  someone : (events : List Event) (p i x : ℕ) → Ready (state_at ws events p) i x → (j : ℕ) × (who_runs (state_at ws events p).kept ≡ Some j)
  unfolding state_at
  someone events p i x h = let d = no_deadlock_lem ws table ok (take p events) (has_some _ i h.ready) in (d.0, d.1)

  leads_on : (events : List Event) (p i x : ℕ) → Ready (state_at ws events p) i x →
      (j : ℕ) × (y : ℕ) × Ready (state_at ws events p) j y × Running (state_at ws events p) j y
  leads_on events p i x h =
      let d = someone events p i x h in
      let y : ℕ = (row_of (state_at ws events p).kept d.0).number in
      let r : Running (state_at ws events p) d.0 y = record { runs = d.1; number = refl } in
      (d.0, y, runner_ready ws events table valid.tasks_most (good ws table ok events) p d.0 y r, r)

  -- Who blocks anybody is who runs.
  one_blocker_lem : (events : List Event) (p x y x' y' : ℕ) → Blocked (state_at ws events p) x y → Blocked (state_at ws events p) x' y' → y ≡ y'
  one_blocker_lem events p x y x' y' b c = (facts ws table ok events).running_one {p = p} (b.other, b.running) (c.other, c.running)

-- Demand 3: a table that passes the check never sticks.
pub demand3 : (ws : List ℕ) (table : Table) → check_of ws ≡ sound table → Demand3 ws
demand3 ws table ok = record {
  never_torn = no_torn ws table ok;
  never_held = no_held ws table ok;
  never_stuck = not_stuck ws table ok;
  before_first_turn = blocked_unturned ws table ok;
  entered_before = blocked_inside ws table ok;
  same_blocker = blocked_by_one ws table ok;
  mutual_exclusion = exclusion ws table ok;
  no_deadlock = leads_on ws table ok;
  one_blocker = one_blocker_lem ws table ok;
}
