pub mod Kept
pub mod Dressed
pub mod Lowered
