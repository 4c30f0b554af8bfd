pub mod Carried
pub mod Labels
pub mod Single
pub mod Sources
pub mod Threads
pub mod Uses
