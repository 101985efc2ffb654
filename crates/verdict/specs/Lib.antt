-- The timing verdict: demand, blocking, the common multiple of the periods, and what each answer means.
pub mod Demand
pub mod Blocking
pub mod Multiple
pub mod Floors
pub mod Times
pub mod Searched
pub mod Verdict
pub mod Said
