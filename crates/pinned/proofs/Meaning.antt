-- The way back from document 01's number and values to an enum's cases. That each loses nothing: WaysBack. Assumes nothing.
use Prim.Native.Nat.{ℕ}
use mathlib.Core.Bool.{cond}
use lib.Dec.{eqb}
use Rattle.numbers.specs.Answers.{SHORT, COUNT, RANGE, STEP, NEST, TORN, BACK, END, NOBODY, ACTIVE, EARLY, FITS, LATE, HEAVY, LONG}
use Rattle.std.specs.Prelude.{Option, Some, None, Result, Ok, Err}
use Rattle.table.specs.Said.{passes, says}
use Rattle.table.specs.Said as table
use Rattle.table.specs.declared.Map.{Map}
use Rattle.table.specs.declared.Finding.{Finding}
use Rattle.table.specs.declared.Finding.TheVariants.{Short, Count, Range, Step, Nest, Crowded}
use Rattle.machine.specs.Reply.{runs, idle, refused, went_on, finished}
use Rattle.machine.specs.Reply as reply
use Rattle.machine.specs.declared.Kept.{Kept}
use Rattle.torn.specs.Examined.{Examined}
use Rattle.torn.specs.declared.Torn as torn
use Rattle.verdict.specs.Verdict as verdict
use Rattle.verdict.specs.declared.Verdict.{Verdict}
use Rattle.verdict.specs.declared.Verdict.TheVariants.{Fits, Late, Heavy, Long}
use Rattle.dispatch.specs.Heard.{Heard, Begun}
use Rattle.dispatch.specs.declared.Outcome.{Outcome}
use Rattle.dispatch.specs.declared.Turn.{Turn}
use Rattle.dispatch.specs.declared.Refusal.{Refusal}
use Rattle.dispatch.specs.declared.Refusal.TheVariants.{Torn, Back, End, Nobody, Active, Early, Held}
use Rattle.dispatch.specs.declared.Accepted.{Accepted}
use Rattle.dispatch.specs.declared.Answer.{Answer}
use Rattle.dispatch.specs.declared.Started.{Started}

-- The finding with a number and a place.
abbrev pub finding_by : ℕ → ℕ → Finding
finding_by number place =
    cond (eqb number SHORT) (Short place)
    (cond (eqb number COUNT) (Count place)
    (cond (eqb number RANGE) (Range place)
    (cond (eqb number STEP) (Step place)
    (cond (eqb number NEST) (Nest place)
    (Crowded place)))))

-- An answer that gives x where the list passes.
abbrev pub finding_from : {A : Type 0} → A → table.CheckReply → Result A Finding
finding_from x passes = Ok x
finding_from x (says number place) = Err (finding_by number place)

-- The answer of the test of TORN: the map, and whether the state is torn.
abbrev pub tested_from : Examined → Result Map torn.Torn
tested_from examined = cond examined.torn (Err (record { map = examined.map })) (Ok examined.map)

-- The refusal with a number.
abbrev pub refusal_from : ℕ → Refusal
refusal_from number =
    cond (eqb number TORN) Torn
    (cond (eqb number BACK) Back
    (cond (eqb number END) End
    (cond (eqb number NOBODY) Nobody
    (cond (eqb number ACTIVE) Active
    (cond (eqb number EARLY) Early
    Held)))))

abbrev pub turn_from : reply.Turn → Option Turn
turn_from (runs i deadline) = Some (record { task = i; deadline = deadline })
turn_from idle = None

abbrev pub reply_from : reply.EventReply → Result Accepted Refusal
reply_from (refused number) = Err (refusal_from number)
reply_from (went_on turn) = Ok (record { late = None; turn = turn_from turn })
reply_from (finished late turn) = Ok (record { late = Some late; turn = turn_from turn })

-- An event on a state's parts: a refusal, or what it answers with what is kept.
abbrev pub parts_with : Kept → Result Accepted Refusal → Result Outcome Refusal
parts_with kept (Ok accepted) = Ok (record { kept = kept; accepted = accepted })
parts_with kept (Err refusal) = Err refusal

abbrev pub parts_from : Heard → Result Outcome Refusal
parts_from heard = parts_with heard.state.kept (reply_from heard.said)

-- An answer with its state.
abbrev pub answer_from : Heard → Answer
answer_from heard = record { state = heard.state; reply = reply_from heard.said }

abbrev pub started_from : Begun → Started
started_from begun = record { finding = finding_from tt begun.said; state = begun.state }

-- The verdict with a number and a value.
abbrev pub verdict_from : verdict.VerdictReply → Result Verdict Finding
verdict_from (verdict.says number value) =
    cond (eqb number FITS) (Ok Fits)
    (cond (eqb number LATE) (Ok (Late value))
    (cond (eqb number HEAVY) (Ok Heavy)
    (cond (eqb number LONG) (Ok Long)
    (Err (finding_by number value)))))
