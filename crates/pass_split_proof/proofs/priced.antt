pub mod Direct
pub mod Edges
pub mod Prices
pub mod Terms
pub mod Whole
