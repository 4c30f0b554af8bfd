pub mod CellKinds
pub mod Keepable
