-- Each variant's name is the one that document 01's number has. Assumes nothing.
use Rattle.numbers.specs.Answers.{name_in}
use Rattle.lines.proofs.texts.FindingNamed.name.Goals as goal

pub returns-in-Short : goal.returns-in-Short
unfolding name_in
returns-in-Short c = rw c.in-Short.is

pub returns-in-Count : goal.returns-in-Count
unfolding name_in
returns-in-Count c = rw c.in-Count.is

pub returns-in-Range : goal.returns-in-Range
unfolding name_in
returns-in-Range c = rw c.in-Range.is

pub returns-in-Step : goal.returns-in-Step
unfolding name_in
returns-in-Step c = rw c.in-Step.is

pub returns-in-Nest : goal.returns-in-Nest
unfolding name_in
returns-in-Nest c = rw c.in-Nest.is

pub returns-in-Crowded : goal.returns-in-Crowded
unfolding name_in
returns-in-Crowded c = rw c.in-Crowded.is
