pub mod NamedActs
pub mod NamedParts
pub mod NamedSlots
pub mod Simulation
