-- Laws of playing a line.
pub mod Told
pub mod Plays
