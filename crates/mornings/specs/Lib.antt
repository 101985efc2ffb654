-- The marked mornings M1 to M12.
pub mod Morning
pub mod Mornings
