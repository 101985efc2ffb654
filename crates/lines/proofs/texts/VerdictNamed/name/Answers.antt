-- Each variant's name is the one that document 01's number has. Assumes nothing.
use Rattle.numbers.specs.Answers.{name_in}
use Rattle.lines.proofs.texts.VerdictNamed.name.Goals as goal

pub returns-in-Fits : goal.returns-in-Fits
unfolding name_in
returns-in-Fits c = rw c.in-Fits.is

pub returns-in-Late : goal.returns-in-Late
unfolding name_in
returns-in-Late c = rw c.in-Late.is

pub returns-in-Heavy : goal.returns-in-Heavy
unfolding name_in
returns-in-Heavy c = rw c.in-Heavy.is

pub returns-in-Long : goal.returns-in-Long
unfolding name_in
returns-in-Long c = rw c.in-Long.is
