pub mod Depths
pub mod Shaped
pub mod Signatures
pub mod Stages
pub mod Tabled
