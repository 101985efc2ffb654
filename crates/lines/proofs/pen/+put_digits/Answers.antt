-- The last digit is behind those of a tenth (`last_digit`), or the only one (`only_digit`). Assumes nothing.
use Rattle.lines.proofs.Behind.{last_digit, only_digit}
use Rattle.lines.proofs.pen.+put_digits.Goals as goal
use Rattle.lines.proofs.pen.+put_digits.Goals.{then-n-ge10, else-n-ge10}

pub returns : goal.returns
returns t c =
    elim c.if-n-ge10.branch [
      | then-n-ge10 w ↦ last_digit c.args.n w.if-n-ge10.true w.put_digits.ensures (rw w.pen-is at c.put_digit.ensures)
      | else-n-ge10 w ↦ only_digit c.args.n w.if-n-ge10.false (rw w.pen-is at c.put_digit.ensures)
    ]
