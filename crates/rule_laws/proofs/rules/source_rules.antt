pub mod Behind
pub mod Ends
pub mod Locals
pub mod Once
pub mod Order
pub mod Shaped
pub mod Slots
pub mod Windows
