pub mod Entered
pub mod Lists
pub mod Shaped
