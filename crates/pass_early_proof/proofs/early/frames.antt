pub mod Frames
pub mod Functions
pub mod HeldAlike
pub mod Modules
pub mod NoParams
