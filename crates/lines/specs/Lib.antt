-- The lines that answer a script (docs/SCRIPT.md), and what it is to write one.
pub mod Lines
pub mod Puts
