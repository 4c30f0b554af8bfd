pub mod Accepted
pub mod Makers
pub mod NamedFields
pub mod NamedRules
pub mod NamedUses
pub mod Naming
pub mod Slots
pub mod Windows
