pub mod Asked
pub mod Weaving
