pub mod Members
pub mod Numberings
pub mod SameOperands
