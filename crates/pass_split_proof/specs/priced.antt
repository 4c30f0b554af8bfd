pub mod Returns
pub mod Split
