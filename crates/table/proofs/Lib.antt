-- The laws of tables.
pub mod Findings
pub mod Levels
pub mod Reading
pub mod Plans
pub mod Claimed
pub mod Floors
pub mod Padded
pub mod Passed
pub mod Written
pub mod Laws
pub mod Cut
pub mod Laid
pub mod Breaking
pub mod Example
pub mod Starts
pub mod Checked
