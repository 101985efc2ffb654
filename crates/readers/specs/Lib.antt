-- What a reader reads.
pub mod Read
