-- Texts: their bytes, decimal numbers, and what it is to write one into a lent room.
pub mod Bytes
pub mod Decimal
pub mod Room
