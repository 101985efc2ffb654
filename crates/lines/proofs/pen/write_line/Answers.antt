-- `lines::pen::write_line` meets its contract: what the pen has written from the start on is the line. Assumes nothing.
use Rattle.std.proofs.Common.{rules, refl}
use Rattle.lines.proofs.Behind.{line_written}
use Rattle.lines.proofs.pen.write_line.Goals as goal

pub returns : goal.returns
returns g c = line_written _ _ _ _ refl c.put.ensures (search rules)
