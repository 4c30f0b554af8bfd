pub mod Grown
pub mod Idle
pub mod Standing
