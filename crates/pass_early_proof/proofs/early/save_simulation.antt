pub mod Simulation
pub mod Suspending
pub mod Tables
