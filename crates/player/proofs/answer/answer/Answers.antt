-- `player::answer::answer` meets its contract: a line that says nothing is not answered. Assumes nothing.
use Rattle.std.proofs.Common.{refl, sym}
use Rattle.text.proofs.Lay.{none_laid, whole}
use Rattle.player.specs.Play.{session_after, answer_to}
use Rattle.player.proofs.answer.answer.Goals as goal

pub returns-in-Ok-None : goal.returns-in-Ok-None
unfolding session_after answer_to
returns-in-Ok-None c = rw (sym (rw c.in-Ok-None.field-0-is at c.in-Ok-None.ensures)) (record { session = refl; answer = whole (none_laid _ 0) })
