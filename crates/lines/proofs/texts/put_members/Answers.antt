-- `lines::texts::put_members`, the goals: a member more is written, and those behind it are left. Assumes nothing.
use Rattle.lines.specs.Lines.{each_text}
use Rattle.lines.proofs.Behind.{behind, nothing_put}
use Rattle.lines.proofs.texts.put_members.Goals as goal

pub loop-k-preserved : goal.loop-k-preserved
unfolding each_text
loop-k-preserved c = λ after rest. c.loop-k.invariant after (rw c.in-Some.ensures.steps (behind c.put.ensures rest))

pub returns : goal.returns
unfolding each_text
returns c = c.loop-k.invariant _ (rw c.in-None.ensures.steps.0 (nothing_put _))
