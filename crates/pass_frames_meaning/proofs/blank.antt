pub mod Away
pub mod Early
pub mod Memory
pub mod Renewed
pub mod States
pub mod Steps
