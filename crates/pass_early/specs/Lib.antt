pub mod Renaming
pub mod BeginName
pub mod Early
