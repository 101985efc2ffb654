use Rattle.text.proofs.Lay.{none_laid, one_more_laid}
use Rattle.text.proofs.room.put_all.Goals as goal

pub loop-item-init : goal.loop-item-init
loop-item-init g c = none_laid _ _

pub loop-item-preserved : goal.loop-item-preserved
loop-item-preserved g c =
    one_more_laid _ _ _ _ _ _ _ _ _ c.loop-item.invariant c.put-next.ensures c.loop-item-test.true c.item-item.is
