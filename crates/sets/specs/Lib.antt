pub mod Member
pub mod Visit
