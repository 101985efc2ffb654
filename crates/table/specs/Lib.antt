-- Document 01's tables: their limits, what a list of words says, what a plan holds, who uses a resource, and its floor.
pub mod Limits
pub mod Table
pub mod Check
pub mod Words
pub mod Broken
pub mod Held
pub mod Spare
pub mod Claims
pub mod Valid
pub mod Floor
pub mod Map
pub mod Innermost
pub mod Said
pub mod Levels
pub mod Walk
