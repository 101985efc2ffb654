use Rattle.std.proofs.Common.{sym, ◌∙◌}
use Rattle.text.proofs.Lay.{none_laid, then}
use Rattle.script.proofs.Entries.{in_end, in_slash, in_number, in_fault}
use Rattle.script.proofs.read.put_numbers.Goals as goal

pub loop-word-preserved-in-Ok : goal.loop-word-preserved-in-Ok
loop-word-preserved-in-Ok c =
    let is = in_number _ c.in-Some.word.now _ _ c.in-Some.ensures.steps (sym c.ne.ensures ∙ c.if-ne.true) c.in-Ok.ensures in
    λ b to r. c.loop-word.invariant b to (rw is (then c.put-next.ensures r))

pub loop-word-preserved : goal.loop-word-preserved
loop-word-preserved c =
    let is = in_slash c.in-Some.word.now _ _ c.in-Some.ensures.steps (sym c.ne.ensures ∙ c.if-ne.false) in
    λ b to r. c.loop-word.invariant b to (rw is r)

pub returns-in-Err : goal.returns-in-Err
returns-in-Err c =
    let is = in_fault _ c.in-Some.word.now _ _ c.in-Some.ensures.steps (sym c.ne.ensures ∙ c.if-ne.true) c.in-Err.ensures in
    c.loop-word.invariant _ _ (rw is (none_laid _ _))

pub returns : goal.returns
returns c = c.loop-word.invariant _ _ (rw (in_end _ c.in-None.ensures.steps.0) (none_laid _ _))
