pub mod MovedState
pub mod Near
pub mod Ways
