pub mod Ending
pub mod Lists
pub mod Moving
pub mod Raising
pub mod Filing
