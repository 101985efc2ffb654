-- Laws of texts.
pub mod Lay
pub mod Digits
