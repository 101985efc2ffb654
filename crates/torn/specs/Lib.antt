-- When a state is torn, of its words, of how many of them are in use and of what is kept.
pub mod Torn
pub mod Examined
