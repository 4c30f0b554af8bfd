pub mod Apart
pub mod LaterQuiet
pub mod Lowering
pub mod PhiEdges
pub mod Plain
pub mod Quiet
pub mod RampQuiet
pub mod Unused
