pub mod Beside
pub mod MovedState
pub mod Moving
pub mod Near
