pub mod Phis
pub mod Returns
