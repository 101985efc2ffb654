-- `judge::verdict` meets its contract, for every list of words: of what the check passes, the map reads the words' own table. The rest is left to the
-- tactic, which is given `judged` and `refuses`: so no name here hangs on what is done with a refusal.
-- Assumes nothing.
use Rattle.std.proofs.Common.{rules}
use Rattle.verdict.proofs.Passed.{passed}
use Rattle.verdict.proofs.judge.verdict.Goals as goal

pub invariant_of-judge : goal.invariant_of-judge
invariant_of-judge c = record { passes = passed _ _ c.survey.result c.survey.ensures (search rules) }
