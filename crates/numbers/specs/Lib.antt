-- What every crate counts with: document 01's numbers of what is answered, tests of the numbers below n, and what holds of each member of a list.
pub mod Answers
pub mod Any
pub mod Each
