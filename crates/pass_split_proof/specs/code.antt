pub mod Entry
pub mod Numbers
pub mod Positions
