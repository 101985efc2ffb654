-- What it means that a promise pins its answer.
pub mod Pinned
