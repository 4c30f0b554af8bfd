pub mod Kept
pub mod Links
pub mod Plan
pub mod Moves
pub mod Written
pub mod Cells
