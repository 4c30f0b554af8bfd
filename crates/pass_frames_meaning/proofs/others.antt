pub mod AtPlace
pub mod Windows
pub mod Unlocated
pub mod Names
pub mod Behind
pub mod Returns
pub mod Others
