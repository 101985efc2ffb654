-- Laws of this crate's definitions.
pub mod Decimal
pub mod Split
pub mod Digits
pub mod Named
pub mod Entries
pub mod Says
