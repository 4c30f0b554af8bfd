pub mod Members
pub mod Types
