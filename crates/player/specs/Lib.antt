-- What it is to play a line of a script: the session after it, and the answer to it.
pub mod Show
pub mod Play
