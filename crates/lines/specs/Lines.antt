-- The lines that are written: replies, findings and verdicts by document 01's numbers and values, faults, and the lines of `show`, each with its line feed.
-- Assumes nothing.
use Rattle.std.specs.Prelude.{ℕ, cond, ◌||◌, List, [], ◌∷◌, ◌++◌, eqb}
use Prim.Native.String.{String}
use Rattle.numbers.specs.Answers.{FITS, LATE, HEAVY, LONG, name_of}
use Rattle.sets.specs.Member.{width, members}
use Rattle.table.specs.Said as table
use Rattle.machine.specs.Reply as reply
use Rattle.verdict.specs.Verdict as verdict
use Rattle.text.specs.Bytes.{bytes}
use Rattle.text.specs.Decimal.{digits, signed}
use Rattle.text.specs.declared.Fault.{Fault}
use Rattle.text.specs.declared.Fault.TheVariants.{Unknown, Missing, Malformed, Large, LeftOver, TooLong}
use Rattle.lines.specs.declared.Doing.{Doing}
use Rattle.lines.specs.declared.Doing.TheVariants.{Lock, Unlock, Finish}

-- A line ends in a line feed.
abbrev pub line : List ℕ → List ℕ
line text = text ++ (10 ∷ [])

-- A text and a number behind it.
abbrev pub labelled : String → ℕ → List ℕ
labelled label n = bytes label ++ digits n

-- `7 BACK`: "The numbers and names are document 01's".
abbrev pub named_text : ℕ → List ℕ
named_text number = digits number ++ bytes " " ++ bytes (name_of number)

-- `refused 7 BACK`
abbrev pub refused_text : ℕ → List ℕ
refused_text number = bytes "refused " ++ named_text number

-- `refused 5 NEST at 12`
abbrev pub placed_text : ℕ → ℕ → List ℕ
placed_text number place = refused_text number ++ labelled " at " place

-- What the table check says; of a sound table `passes`, which is `sound` for a check and `started` for a start.
abbrev pub finding_text : List ℕ → table.CheckReply → List ℕ
finding_text passes table.passes = passes
finding_text passes (table.says number place) = placed_text number place

-- Who runs: `runs 2, 30` or `idle`.
abbrev pub turn_text : reply.Turn → List ℕ
turn_text (reply.runs i deadline) = labelled "runs " i ++ labelled ", " deadline
turn_text reply.idle = bytes "idle"

-- A reply: `runs 2, 30`, `idle`, `lateness -7; runs 2, 21`, `lateness -8; idle` or `refused 7 BACK`.
abbrev pub reply_text : reply.EventReply → List ℕ
reply_text (reply.refused number) = refused_text number
reply_text (reply.went_on turn) = turn_text turn
reply_text (reply.finished late turn) = bytes "lateness " ++ signed late ++ bytes "; " ++ turn_text turn

-- `20 FITS`, `21 LATE 20`, `22 HEAVY`, `23 LONG`, or `refused 3 RANGE at 4`; 0, which is no refusal's number, is said of a list that passes.
abbrev pub verdict_text : verdict.VerdictReply → List ℕ
verdict_text (verdict.says number value) =
    cond (eqb number LATE) (named_text number ++ labelled " " value)
    (cond (eqb number FITS || (eqb number HEAVY || eqb number LONG)) (named_text number)
    (cond (eqb number 0) (bytes "sound") (placed_text number value)))

-- What is wrong with a line.
abbrev pub fault_text : Fault → List ℕ
fault_text Unknown = bytes "unknown word"
fault_text Missing = bytes "number missing"
fault_text Malformed = bytes "malformed number"
fault_text Large = bytes "number too large"
fault_text LeftOver = bytes "something left over"
fault_text TooLong = bytes "line too long"

-- `line 7: number missing`
abbrev pub wrong_text : ℕ → Fault → List ℕ
wrong_text number fault = labelled "line " number ++ bytes ": " ++ fault_text fault

-- `clock 9`
abbrev pub clock_text : ℕ → List ℕ
clock_text time = labelled "clock " time

-- "`holds` lists the resources that the job holds, by rising number with a blank between them, or says `nothing`.": a blank before each.
unfoldable pub each_text : List ℕ → List ℕ
each_text [] = []
each_text (k ∷ ks) = bytes " " ++ digits k ++ each_text ks

abbrev pub some_text : List ℕ → List ℕ
some_text [] = bytes " nothing"
some_text (k ∷ ks) = each_text (k ∷ ks)

unfoldable pub held_text : ℕ → List ℕ
held_text held = some_text (members width held)

-- "`next` is the job's next step: `lock R`, `unlock R` (the innermost one that it holds) or `finish`."
abbrev pub doing_text : Doing → List ℕ
doing_text (Lock r) = labelled "lock " r
doing_text (Unlock r) = labelled "unlock " r
doing_text Finish = bytes "finish"

-- `task 3: base 90, active 40, release 7, holds 0 3, next lock 2`
abbrev pub job_text : (task base active number held : ℕ) → Doing → List ℕ
job_text task base active number held doing =
    labelled "task " task
    ++ labelled ": base " base
    ++ labelled ", active " active
    ++ labelled ", release " number
    ++ bytes ", holds" ++ held_text held
    ++ bytes ", next " ++ doing_text doing
