-- Demand 3: a table that passes the check never sticks.
pub mod Demand3
