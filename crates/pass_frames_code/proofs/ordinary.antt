pub mod Behind
pub mod Made
pub mod Operands
pub mod Quiet
pub mod Stores
