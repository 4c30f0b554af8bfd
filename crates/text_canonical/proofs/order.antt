pub mod Bodies
pub mod Holds
pub mod Modules
pub mod Parts
pub mod Shaped
