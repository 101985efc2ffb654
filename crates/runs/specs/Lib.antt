-- A run: a fresh start and any events.
pub mod Run
