pub mod Asking
pub mod Defined
pub mod Entries
pub mod Needed
pub mod NewUses
pub mod Paths
pub mod Spots
pub mod Values
