pub mod Holding
pub mod KeptValues
pub mod Order
pub mod Outside
pub mod Passes
pub mod SavedUses
pub mod Windows
