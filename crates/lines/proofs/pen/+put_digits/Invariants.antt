-- `lines::pen::put_digits` calls itself for the digits in front of the last one, and the measure is the number, of which a tenth is less. Assumes nothing.
use Rattle.lines.proofs.pen.+put_digits.Given as goal

abbrev pub decreases-put_digits : goal.decreases-put_digits
decreases-put_digits l = l.n
