pub mod Filled
pub mod Named
