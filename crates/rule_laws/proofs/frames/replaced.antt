pub mod Extended
pub mod Modules
pub mod Replaced
pub mod Saves
