pub mod Kept
pub mod Parts
mod States
pub mod Simulation
pub mod Freed
