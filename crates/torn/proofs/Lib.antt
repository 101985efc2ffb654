-- The laws of TORN: `Untorn` (what a state that isn't torn gives), `Grounds` (the grounds put together, as the code finds them), `Asked` (a test asked of each item).
pub mod Asked
pub mod Untorn
pub mod Grounds
