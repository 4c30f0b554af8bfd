pub mod Early
pub mod Entry
pub mod Names
