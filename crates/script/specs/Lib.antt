-- The script of docs/SCRIPT.md as definitions: how a line is split into words, and what the words say.
pub mod Signs
pub mod Number
pub mod Words
pub mod Grammar
