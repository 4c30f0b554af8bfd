pub mod paths
pub mod rules
pub mod simulation
pub mod states
