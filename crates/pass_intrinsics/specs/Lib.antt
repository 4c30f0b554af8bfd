pub mod Shapes
pub mod Lowered
pub mod Cuts
