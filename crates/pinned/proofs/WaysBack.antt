-- The definitions that give document 01's number and values for an enum lose nothing: each has a way back (Meaning). Assumes nothing.
use mathlib.Core.Path.{◌≡◌, refl, ap}
use Rattle.std.specs.Prelude.{ℤ, Option, Some, None, Result, Ok, Err}
use Rattle.table.specs.Said.{refusal_said, said_of, survey_said}
use Rattle.table.specs.Map.{no_map}
use Rattle.machine.specs.declared.Kept.{Kept}
use Rattle.table.specs.declared.Map.{Map}
use Rattle.table.specs.declared.Finding.{Finding}
use Rattle.table.specs.declared.Finding.TheVariants.{Short, Count, Range, Step, Nest, Crowded}
use Rattle.torn.specs.Examined.{tested}
use Rattle.torn.specs.declared.Torn as torn
use Rattle.verdict.specs.Said.{verdict_said}
use Rattle.verdict.specs.declared.Verdict.{Verdict}
use Rattle.verdict.specs.declared.Verdict.TheVariants.{Fits, Late, Heavy, Long}
use Rattle.dispatch.specs.Heard.{number_of, turn_said, went_with, accepted_said, reply_said, outcome_of, heard_of, begun_of}
use Rattle.dispatch.specs.Dispatch.{after}
use Rattle.dispatch.specs.declared.Outcome.{Outcome}
use Rattle.dispatch.specs.declared.State.{State}
use Rattle.dispatch.specs.declared.Turn.{Turn}
use Rattle.dispatch.specs.declared.Refusal.{Refusal}
use Rattle.dispatch.specs.declared.Refusal.TheVariants.{Torn, Back, End, Nobody, Active, Early, Held}
use Rattle.dispatch.specs.declared.Accepted.{Accepted}
use Rattle.dispatch.specs.declared.Answer.{Answer}
use Rattle.dispatch.specs.declared.Started.{Started}
use Rattle.pinned.proofs.Meaning.{answer_from, finding_from, parts_from, parts_with, refusal_from, reply_from, started_from, tested_from, turn_from, verdict_from}

refused_back : {A : Type 0} (x : A) (finding : Finding) → finding_from x (refusal_said finding) ≡ Err finding
refused_back x (Short place) = refl
refused_back x (Count place) = refl
refused_back x (Range place) = refl
refused_back x (Step place) = refl
refused_back x (Nest place) = refl
refused_back x (Crowded place) = refl

pub finding_back : (r : Result (Unit {0}) Finding) → finding_from tt (said_of r) ≡ r
finding_back (Ok x) = refl
finding_back (Err finding) = refused_back tt finding

-- A survey says what its finding says, and has the map.
pub survey_back : (r : Result Map Finding) → finding_from (survey_said r).map (survey_said r).said ≡ r
survey_back (Ok map) = refl
survey_back (Err finding) = refused_back no_map finding

-- The test of TORN says the map, and whether the state is torn.
pub tested_back : (r : Result Map torn.Torn) → tested_from (tested r) ≡ r
tested_back (Ok map) = refl
tested_back (Err found) = refl

refusal_back : (r : Refusal) → refusal_from (number_of r) ≡ r
refusal_back Torn = refl
refusal_back Back = refl
refusal_back End = refl
refusal_back Nobody = refl
refusal_back Active = refl
refusal_back Early = refl
refusal_back Held = refl

turn_back : (r : Option Turn) → turn_from (turn_said r) ≡ r
turn_back (Some turn) = refl
turn_back None = refl

accepted_back : (r : Accepted) → reply_from (accepted_said r) ≡ Ok r
accepted_back r = go r.late
  where
    go : (late : Option ℤ) → reply_from (went_with late (turn_said r.turn)) ≡ Ok (record { late = late; turn = r.turn })
    go None = λ i. Ok (record { late = None; turn = turn_back r.turn i })
    go (Some late) = λ i. Ok (record { late = Some late; turn = turn_back r.turn i })

reply_back : (r : Result Accepted Refusal) → reply_from (reply_said r) ≡ r
reply_back (Ok accepted) = accepted_back accepted
reply_back (Err refusal) = ap Err (refusal_back refusal)

pub parts_back : (s : State) (kept : Kept) (r : Result Outcome Refusal) → parts_from (after s (outcome_of kept r)) ≡ r
parts_back s kept (Ok out) = ap (parts_with out.kept) (accepted_back out.accepted)
parts_back s kept (Err refusal) = ap Err (refusal_back refusal)

pub answer_back : (r : Answer) → answer_from (heard_of r) ≡ r
answer_back r = λ i. record { state = r.state; reply = reply_back r.reply i }

pub started_back : (r : Started) → started_from (begun_of r) ≡ r
started_back r = λ i. record { finding = finding_back r.finding i; state = r.state }

judged_back : (finding : Finding) → verdict_from (verdict_said (Err finding)) ≡ Err finding
judged_back (Short place) = refl
judged_back (Count place) = refl
judged_back (Range place) = refl
judged_back (Step place) = refl
judged_back (Nest place) = refl
judged_back (Crowded place) = refl

pub verdict_back : (r : Result Verdict Finding) → verdict_from (verdict_said r) ≡ r
verdict_back (Ok Fits) = refl
verdict_back (Ok (Late t)) = refl
verdict_back (Ok Heavy) = refl
verdict_back (Ok Long) = refl
verdict_back (Err finding) = judged_back finding
