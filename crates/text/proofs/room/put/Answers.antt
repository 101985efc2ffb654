-- `text::room::put` meets its contract: it stores the item, or has no room for it. Assumes nothing.
use Rattle.text.proofs.Lay.{one_laid, one_dropped}
use Rattle.text.proofs.room.put.Goals as goal

pub returns-then-at-room : goal.returns-then-at-room
returns-then-at-room g c = one_laid c.args.item c.args.room.now c.args.at c.if-at-room.true

pub returns : goal.returns
returns g c = one_dropped c.args.item c.args.room.now c.args.at c.if-at-room.false
