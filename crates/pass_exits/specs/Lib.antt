pub mod Exits
pub mod ExitBlocks
pub mod Regions
pub mod Rows
pub mod Leaving
