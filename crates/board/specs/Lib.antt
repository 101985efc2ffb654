-- What a controller sees: a state as an image of fixed length, an answer as five numbers, and what each call leaves in them.
pub mod Image
pub mod Answer
pub mod Calls
pub mod Kept
