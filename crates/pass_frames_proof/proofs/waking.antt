pub mod Callers
pub mod Entered
pub mod Grown
pub mod Labels
pub mod Restated
pub mod Woken
