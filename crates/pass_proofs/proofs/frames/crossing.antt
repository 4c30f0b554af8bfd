pub mod Ending
pub mod Framed
pub mod Whole
