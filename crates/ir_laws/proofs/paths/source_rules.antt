pub mod Behind
pub mod Locals
pub mod Makers
pub mod Windows
