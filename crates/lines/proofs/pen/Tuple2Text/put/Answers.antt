-- A pair's text is its first's and, behind it, its second's (`behind`). Assumes nothing.
use Rattle.lines.proofs.Behind.{behind}
use Rattle.lines.proofs.pen.Tuple2Text.put.Goals as goal

pub returns : goal.returns
returns g c = behind c.put.ensures c.put-2.ensures
