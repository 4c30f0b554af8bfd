pub mod Changed
pub mod Codes
pub mod Gone
pub mod Kept
pub mod Marks
pub mod Sooner
pub mod Still
pub mod Twice
