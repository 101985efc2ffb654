-- What an answer of this crate says: the check's number and place, or document 01's number with its value. Assumes nothing.
use Rattle.std.specs.Prelude.{Result, Ok, Err}
use Rattle.table.specs.Said.{passes}
use Rattle.table.specs.Said as table
use Rattle.table.specs.declared.Finding.{Finding}
use Rattle.verdict.specs.Verdict.{VerdictReply, says}
use Rattle.numbers.specs.Answers.{FITS, LATE, HEAVY, LONG}
use Rattle.verdict.specs.declared.Verdict.{Verdict}
use Rattle.verdict.specs.declared.Verdict.TheVariants.{Fits, Late, Heavy, Long}

-- The check's refusal, as a verdict. That a list passes is no refusal and gets a number that no answer has.
abbrev pub refusal_said : table.CheckReply → VerdictReply
refusal_said passes = says 0 0
refusal_said (table.says number place) = says number place

abbrev pub verdict_said : Result Verdict Finding → VerdictReply
verdict_said (Ok Fits) = says FITS 0
verdict_said (Ok (Late t)) = says LATE t
verdict_said (Ok Heavy) = says HEAVY 0
verdict_said (Ok Long) = says LONG 0
verdict_said (Err finding) = refusal_said (table.refusal_said finding)
