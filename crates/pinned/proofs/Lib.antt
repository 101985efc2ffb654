-- Every public promise pins its answer.
pub mod Meaning
pub mod WaysBack
pub mod Pinned
