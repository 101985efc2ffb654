-- What holds of every state that a run can reach, for any choice of who runs: the moves, the rows, the shape of what is kept; that no such state is torn.
pub mod Moves
pub mod Stack
pub mod Sum
pub mod Shape
pub mod Torn
pub mod Reached
