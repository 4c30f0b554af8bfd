pub mod Ends
pub mod Framed
pub mod Fronts
pub mod Rows
pub mod Stored
pub mod Twice
pub mod Values
