-- The laws of the readers: what a map reads off the words, what a walk back over a plan finds held, the users as a set, and those visited for a floor.
pub mod Raw
pub mod Gathered
pub mod Closing
pub mod Visiting
