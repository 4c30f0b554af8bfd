pub mod Coroutines
pub mod Row
pub mod Sources
pub mod Unnamed
