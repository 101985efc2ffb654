-- The order of jobs: `Sooner`. Who runs: `Order` for whoever reasons about runs, `Choose` for the code that chooses, `Turn` for what a reply says of it. The
-- machine: `Given` (each refusal exactly when, and a refused event changes nothing), `Rows` and `Moves` (what an accepted event is, what it changes and what stays).
pub mod Sooner
pub mod Order
pub mod Choose
pub mod Turn
pub mod Given
pub mod Rows
pub mod Moves
pub mod Numbers
