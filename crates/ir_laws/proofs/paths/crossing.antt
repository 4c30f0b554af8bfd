pub mod NewUses
pub mod Spots
pub mod Values
