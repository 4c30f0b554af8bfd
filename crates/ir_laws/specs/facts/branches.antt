pub mod MovedState
pub mod Ways
