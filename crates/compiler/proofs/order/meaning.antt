pub mod Main
pub mod Modules
pub mod Placed
pub mod Simulation
pub mod States
