-- M1 to M12 hold.
pub mod Mornings
