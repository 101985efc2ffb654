-- A job's line is its parts, one behind the other (`behind`). Assumes nothing.
use Rattle.lines.proofs.Behind.{behind}
use Rattle.lines.proofs.texts.JobLineText.put.Goals as goal

pub returns : goal.returns
returns c =
    let numbers = behind (behind (behind c.put.ensures c.put-2.ensures) c.put-3.ensures) c.put-4.ensures in
    behind (behind (behind (behind numbers c.put-5.ensures) c.put-6.ensures) c.put-7.ensures) c.put-8.ensures
