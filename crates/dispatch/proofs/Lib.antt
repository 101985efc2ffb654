-- Laws of the dispatcher's parts, and the theorems about its events: `Exactly` (each refusal exactly when), `Handed` (what comes back), `Released` (a new
-- job's number and its place in the order), `Finished` (what a finish leaves).
pub mod Late
pub mod After
pub mod Held
pub mod Timely
pub mod Told
pub mod Grounds
pub mod Store
pub mod Begun
pub mod Exactly
pub mod Handed
pub mod Released
pub mod Finished
