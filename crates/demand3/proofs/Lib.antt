-- For any choice of who runs: General. The machine's runs as General sees them: States, Events, Ready, Holding, Running, RunFacts. Particular to floors: Ahead,
-- Blocking, Separate, SeparateKept, Exclusion. Demand 3 as one record, and that it is not empty: Demand3, Witness.
pub mod General
pub mod States
pub mod Events
pub mod Ready
pub mod Holding
pub mod Running
pub mod RunFacts
pub mod Ahead
pub mod Separate
pub mod SeparateKept
pub mod Exclusion
pub mod Blocking
pub mod Demand3
pub mod Witness
