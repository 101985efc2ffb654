-- The dispatcher's calls as definitions: when a state is torn, and what a start, a release and a step answer.
pub mod State
pub mod Torn
pub mod Heard
pub mod Dispatch
pub mod Parts
