pub mod crossing
pub mod names
pub mod rules
