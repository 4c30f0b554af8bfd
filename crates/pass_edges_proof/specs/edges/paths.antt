pub mod Labels
pub mod Phis
pub mod Spots
