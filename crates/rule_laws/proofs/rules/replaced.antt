pub mod Known
pub mod Locals
pub mod OwnKinds
pub mod PartValues
pub mod Passed
pub mod Replaced
pub mod Values
