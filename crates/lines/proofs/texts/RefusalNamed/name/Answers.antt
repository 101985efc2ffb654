-- Each variant's name is the one that document 01's number has. Assumes nothing.
use Rattle.numbers.specs.Answers.{name_in}
use Rattle.lines.proofs.texts.RefusalNamed.name.Goals as goal

pub returns-in-Torn : goal.returns-in-Torn
unfolding name_in
returns-in-Torn c = rw c.in-Torn.is

pub returns-in-Back : goal.returns-in-Back
unfolding name_in
returns-in-Back c = rw c.in-Back.is

pub returns-in-End : goal.returns-in-End
unfolding name_in
returns-in-End c = rw c.in-End.is

pub returns-in-Nobody : goal.returns-in-Nobody
unfolding name_in
returns-in-Nobody c = rw c.in-Nobody.is

pub returns-in-Active : goal.returns-in-Active
unfolding name_in
returns-in-Active c = rw c.in-Active.is

pub returns-in-Early : goal.returns-in-Early
unfolding name_in
returns-in-Early c = rw c.in-Early.is

pub returns-in-Held : goal.returns-in-Held
unfolding name_in
returns-in-Held c = rw c.in-Held.is
