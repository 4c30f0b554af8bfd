pub mod Lists
pub mod Renewed
pub mod Stack
pub mod States
pub mod Steps
