pub mod Order
pub mod Acceptance
