-- Laws of the lines.
pub mod Behind
pub mod Members
