-- `euclid::gcd` meets its contract, and ends: the measure is b, and the remainder of a by b is less than b. What it answers is Euclid's rule, of
-- `divisor_of` itself.
-- Assumes nothing.
use Rattle.verdict.proofs.euclid.+gcd.Given as goal

abbrev pub decreases-gcd : goal.decreases-gcd
decreases-gcd l = l.b
