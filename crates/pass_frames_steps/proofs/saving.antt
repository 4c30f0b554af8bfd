pub mod Becoming
pub mod Left
pub mod Own
pub mod Saved
pub mod Sets
pub mod Stepped
