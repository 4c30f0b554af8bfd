pub mod Marks
pub mod PartNames
