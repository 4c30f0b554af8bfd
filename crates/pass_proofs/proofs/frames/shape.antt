pub mod Addresses
pub mod Cells
pub mod Fetched
pub mod Fits
pub mod Framed
