-- The laws of the verdict's definitions, one subject a file, and from Alone on what the functions of `times`, `work`, `euclid` and `search` find and keep,
-- apart from them: so that a source can name the lemma that the tactic is given.
pub mod Each
pub mod Divisor
pub mod Multiple
pub mod Demand
pub mod Blocking
pub mod Periodic
pub mod Points
pub mod Judged
pub mod Meaning
pub mod Long
pub mod Rest
pub mod Alone
pub mod Gathered
pub mod Sums
pub mod Greatest
pub mod Reached
pub mod Made
pub mod Within
pub mod Passing
pub mod Found
pub mod Judging
pub mod Passed
