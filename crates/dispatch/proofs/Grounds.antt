-- An event on a state, by whether the state is torn: TORN's row goes first, and a state that isn't torn has what the machine's part counts on.
-- Assumes nothing.
use Prim.Native.Nat.{ℕ, ◌≤◌}
use Rattle.machine.specs.declared.Kept.{Kept}
use mathlib.Core.Path.{◌≡◌, sym, ap, ap₂, ◌∙◌}
use mathlib.Core.Bool.{true, false}
use Rattle.std.specs.Prelude.{Result, Ok}
use Rattle.numbers.specs.Answers.{TORN}
use Rattle.table.specs.Limits.{room}
use Rattle.table.specs.Table.{Table}
use Rattle.table.specs.Check.{sound, check_of}
use Rattle.table.specs.Map.{table_at, map_of}
use Rattle.table.specs.declared.Map.{Map}
use Rattle.machine.specs.Event.{Event}
use Rattle.machine.specs.Moves.{accepted}
use Rattle.machine.specs.Away.{turned_away, grounds_of, event_in}
use Rattle.machine.proofs.Given.{given_here, given_later}
use Rattle.torn.specs.Torn.{table_from, torn_table, torn_by, torn_of}
use Rattle.torn.specs.Examined.{Examined, tested, examined_of}
use Rattle.torn.proofs.Grounds.{untorn_parts, examined_table}
use Rattle.dispatch.specs.State.{words_in, table_in}
use Rattle.dispatch.specs.Torn.{torn, torn_ground}
use Rattle.dispatch.specs.Heard.{number_of, outcome_of}
use Rattle.dispatch.specs.declared.Outcome.{Outcome}
use Rattle.dispatch.specs.declared.Refusal.{Refusal}
use Rattle.dispatch.specs.declared.Refusal.TheVariants.{Torn}
use Rattle.dispatch.specs.Dispatch.{after, event_of}
use mathlib.Core.List.{List}
use lib.ListN.{length, take}
use lib.Seq.{take_all, length-take-le}
use native.Mathlib.Omega.{arith}
use Rattle.dispatch.specs.declared.State.{State}

-- ---- TORN, and what is left

module _ (s : State) (e : Event) where
  pub event_torn : torn s ≡ true → after s (turned_away s.kept TORN) ≡ event_of s e
  event_torn h =
      ap (after s) (sym (given_here s.kept (accepted (table_in s) s.kept e) (torn_ground s) (grounds_of (table_in s) s.kept e) h))

  pub event_whole : torn s ≡ false → after s (event_in (table_in s) s.kept e) ≡ event_of s e
  unfolding event_in
  event_whole h =
      ap (after s) (sym (given_later s.kept (accepted (table_in s) s.kept e) (torn_ground s) (grounds_of (table_in s) s.kept e) h))

-- ---- a state that isn't torn

module _ (s : State) where
  pub table_is : (t : Table) → check_of (words_in s) ≡ sound t → table_in s ≡ t
  unfolding table_in
  table_is t e = rw e

  -- Its table passes the check, and no other ground holds.
  pub untorn_state : torn s ≡ false → (s.length ≤ room) × ((t : Table) × (check_of (words_in s) ≡ sound t) × (torn_by t s.kept ≡ false))
  unfolding torn
  untorn_state h = untorn_parts s.words s.length s.kept h

-- ---- what the test of TORN says of a state that isn't torn

-- The map is that of the words in use, and these and what is kept are not torn.
module _ (words : List ℕ) (used : ℕ) (kept : Kept) (map : Map) (said : tested (Ok map) ≡ examined_of words used kept) where
  pub found_whole : torn_of words used kept ≡ false
  found_whole = sym (ap (λ (x : Examined). x.torn) said)

  pub found_map : map ≡ map_of (take used words)
  found_map = ap (λ (x : Examined). x.map) said

  pub used_fits : used ≤ room
  used_fits = (untorn_parts words used kept found_whole).0

  pub found_untorn : length words ≡ room → torn_of (take used words) (length (take used words)) kept ≡ false
  unfolding torn_of torn_table
  found_untorn all = taken (length-take-le used words (let l = used_fits in omega arith)) ∙ found_whole
    where
      taken : length (take used words) ≡ used → torn_of (take used words) (length (take used words)) kept ≡ torn_of words used kept
      taken e = rw (e, take_all used (take used words) (omega (arith, e)))

  pub found_table : table_at (take used words) map ≡ table_from (check_of (take used words))
  found_table =
      let (l, rest) = untorn_parts words used kept found_whole in
      let (t, e, q) = rest in
      examined_table (take used words) t map e found_map ∙ sym (ap table_from e)

-- ---- an event behind it

module _ (s : State) (e : Event) where
  pub refused_torn : (refusal : Refusal) → (refusal ≡ Torn) × (torn_of s.words s.length s.kept ≡ true) → after s (turned_away s.kept (number_of refusal)) ≡ event_of s e
  unfolding torn
  refused_torn refusal h = ap (λ (r : Refusal). after s (turned_away s.kept (number_of r))) h.0 ∙ event_torn s e h.1

  pub event_said : (table : Table) (kept : Kept) (reply : Result Outcome Refusal) →
      (torn_of s.words s.length s.kept ≡ false) × (table ≡ table_from (check_of (words_in s))) × (kept ≡ s.kept) →
      outcome_of kept reply ≡ event_in table kept e → after s (outcome_of s.kept reply) ≡ event_of s e
  unfolding torn table_in
  event_said table kept reply h is =
      ap (λ (k : Kept). after s (outcome_of k reply)) (sym h.2)
      ∙ ap (after s) is
      ∙ ap₂ (λ (t : Table) (k : Kept). after s (event_in t k e)) h.1 h.2
      ∙ event_whole s e h.0
