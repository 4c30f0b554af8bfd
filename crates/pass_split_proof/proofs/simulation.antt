pub mod Agreement
pub mod Assembly
pub mod Knowing
pub mod Started
pub mod Starts
pub mod Weights
