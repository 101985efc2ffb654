-- A start, put together from what the check says and the state that goes with it. Assumes nothing.
use Prim.Native.Nat.{◌≤◌}
use mathlib.Core.Path.{◌≡◌, ap₂}
use mathlib.Core.List.{List}
use Prim.Native.Nat.{ℕ}
use lib.ListN.{length}
use Rattle.std.specs.Prelude.{Result, Ok, Err}
use Rattle.numbers.proofs.Tests.{never}
use Rattle.table.specs.Limits.{room}
use Rattle.table.specs.Check.{Checked, sound, refused, check_of}
use Rattle.table.specs.Said.{CheckReply, said_of, finding_said, check_said}
use Rattle.table.specs.declared.Finding.{Finding}
use Rattle.table.proofs.Findings.{refusal}
use Rattle.table.proofs.Laws.{sound_length}
use Rattle.dispatch.specs.State.{fresh_state, zero_state}
use Rattle.dispatch.specs.Heard.{Begun}
use Rattle.dispatch.specs.Dispatch.{start_from, start_of}
use Rattle.dispatch.specs.declared.State.{State}
use Rattle.torn.proofs.Grounds.{passed_sound}

begun : State → CheckReply → Begun
begun state said = record { state = state; said = said }

module _ (ws : List ℕ) (found : Result (Unit {0}) Finding) (said : said_of found ≡ check_said ws) where
  pub start_refused : (finding : Finding) (state : State) → found ≡ Err finding → state ≡ zero_state → ◌≡◌ {A = Begun} (record { state = state; said = said_of found }) (start_of ws)
  unfolding start_of begun
  start_refused finding state e q = go (check_of ws) said
    where
      go : (checked : Checked) → said_of found ≡ finding_said checked → begun state (said_of found) ≡ start_from checked ws
      go (sound t) f = never (let r = refusal finding in cc)
      go (refused number place) f = ap₂ begun q f

  pub start_sound : (state : State) → found ≡ Ok (tt {0}) → state ≡ fresh_state ws (length ws) → ◌≡◌ {A = Begun} (record { state = state; said = said_of found }) (start_of ws)
  unfolding start_of begun
  start_sound state e q = go (check_of ws) said
    where
      go : (checked : Checked) → said_of found ≡ finding_said checked → begun state (said_of found) ≡ start_from checked ws
      go (sound t) f = ap₂ begun q f
      go (refused number place) f = never (cc)

  -- A sound list has room in the state.
  pub start_room : found ≡ Ok (tt {0}) → length ws ≤ room
  start_room e =
      let (t, q) = passed_sound (check_of ws) (cc) in
      sound_length ws t q
