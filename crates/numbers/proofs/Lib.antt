-- The laws of tests and of `any_below`.
pub mod Tests
pub mod Any
